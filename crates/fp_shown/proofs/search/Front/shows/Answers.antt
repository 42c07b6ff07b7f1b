use Rattle.std.proofs.Common.{arith, ◌≡◌, ◌<◌, ℕ, length, get_or, Option, Some, None, refl}
use Rattle.std.specs.Prelude.{◌↔◌, IsTrue, MatchOption}
use Rattle.std.specs.Option.{is_some}
use Rattle.std.proofs.lemmas.Grind.{common_steps}
use Rattle.fp_shown.specs.Shown.{row_of, IsShown, IsRowShown}
use Rattle.fp_shown.proofs.search.Front.shows.Goals as goal

told_by : (S : Type 0) (x : Option ℕ) → MatchOption x (S → ⊥) (λ _. S) → IsTrue (is_some x) ↔ S
told_by S (Some i) s = (λ _. s, λ _. refl)
told_by S None hidden = (λ t. absurd (let e = t in cc), λ s. absurd (hidden s))

pub returns : goal.returns
unfolding IsShown
returns c known told =
    let g = c.args.s.now.grid in
    let row = row_of g c.args.cell in
    let at : c.row_of.result ≡ row = c.row_of.ensures.value in
    let below : row < length g.rows = omega (arith, at, c.row_of.ensures.inside, c.args.s.now.row_count) in
    let e : get_or c.args.self.now.decided.items row None ≡ c.index.result.now = grind (arith, common_steps) in
    let S : Type 0 = IsRowShown g known row in
    let s : MatchOption c.index.result.now (S → ⊥) (λ _. S) = rw e at (told row below) in
    rw (c.is_some.ensures) (told_by S c.index.result.now s)
