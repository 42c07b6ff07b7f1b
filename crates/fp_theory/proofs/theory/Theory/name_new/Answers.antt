use Rattle.std.proofs.Common.{◌≡◌, sym, subst}
use Rattle.std.specs.Prelude.{None}
use Rattle.fp_theory.specs.State.{State, found_theorem, IsNoted}
use Rattle.fp_theory.proofs.Keeping.{theory_added}
use Rattle.fp_theory.proofs.theory.Theory.name_new.Goals as goal

pub invariant_of-self : goal.invariant_of-self
invariant_of-self c =
    let i = c.self.inside in
    let state : State = record { defs = i.defs; named = i.named; simps = i.simps.items; congs = i.congs.items; types = i.types } in
    let free = subst (λ (s : State). found_theorem c.args.name.now s.named ≡ None) (sym c.self.view_is) c.requires.free in
    let noted = subst (λ (s : State). IsNoted s.defs c.args.theorem) (sym c.self.view_is) c.requires.noted in
    theory_added state c.push.new.self c.args.name.now c.args.theorem c.push.result c.self.invariant free noted c.push.ensures.ok c.push.ensures.err
