use Rattle.std.proofs.Common.{◌∙◌, [], ◌∷◌, ◌++◌, length, sym, ap}
use Rattle.std.specs.Prelude.{map}
use Rattle.fp_theory.specs.Places.{seen_entry, placed}
use Rattle.fp_theory.proofs.Placing.{placed_pushed}
use Rattle.fp_theory.proofs.named.Named.push.Goals as goal

pub invariant_of-self-2 : goal.invariant_of-self-2
invariant_of-self-2 c =
    let es = c.self.inside.entries.items in
    let places = c.in_ok-entry.ensures.places
    ∙ ap (λ l. placed 0 l ++ (c.args.name.now, length (placed 0 l)) ∷ []) (sym c.self.view_is)
    ∙ ap (λ n. placed 0 (map seen_entry es) ++ (n, length (placed 0 (map seen_entry es))) ∷ []) (sym c.in_ok-entry.ensures.name) in
    rw c.in_ok-push.ensures.items (placed_pushed [] es c.in_ok-entry.entry c.self.invariant places)
