use Rattle.std.proofs.Common.{◌≡◌, ◌∙◌, sym, ap, subst, IfOk}
use Rattle.fp_theory.specs.Places.{placed}
use Rattle.fp_theory.proofs.Placing.{places_by_last}
use Rattle.fp_theory.proofs.named.Named.places.Goals as goal

pub returns-in-Some : goal.returns-in-Some
returns-in-Some c =
    subst (λ l. IfOk c.copy.result (λ a. a ≡ l))
    (places_by_last c.self.inside.entries.items c.in-Some.field-0-1.now c.in-Some.last.now (sym c.as_slice.ensures.value ∙ c.in-Some.ensures.cases.0) c.self.invariant
    ∙ ap (placed 0) c.self.view_is) c.copy.ensures
