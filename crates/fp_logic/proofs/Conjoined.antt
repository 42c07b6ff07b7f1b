-- The steps from two formulas to their conjunction.
use Rattle.std.proofs.Common.{◌≡◌, ◌∙◌, List, [], refl, sym, ap, subst}
use Rattle.std.specs.Prelude.{codes}
use Rattle.fp_term.specs.Terms.{Tm}
use Rattle.fp_conclude.specs.Logic.{truth_type, binary_type, equal, true_constant, connective, conjunction}
use Rattle.fp_conclude.specs.Hypotheses.{IsSet}
use Rattle.fp_conclude.proofs.Sets.{union_nothing}
use Rattle.fp_kernel.specs.Definitions.{Def, whole}
use Rattle.fp_kernel.specs.Theorems.{Theorem, ArePromises, plain, by_one, by_both}
use Rattle.fp_kernel.proofs.Promised.{promises_alone}
use Rattle.fp_conclude.specs.Shapes.{right}
use Rattle.fp_forms.specs.Schemas.{held}
use Rattle.fp_kernel.specs.Known.{CanMkComb, CanEqMp}
use Rattle.fp_conclude.specs.Known.{mk_comb_concl}
use Rattle.fp_logic.proofs.Begun.{from_nothing}

abbrev own_and : Tm
own_and = let t = connective (codes "and") in equal (binary_type truth_type truth_type) t t

-- a theorem over the list, with that conclusion
abbrev Is : List Def → Theorem → Tm → Type 0
Is defs a p = a ≡ by_one defs a p

once_at : (defs : List Def) (a : Theorem) (p : Tm) → CanMkComb defs (plain defs own_and) (by_one defs a (held p))
once_at defs a p = (whole, whole, refl, refl)

pub once_asks : (defs : List Def) (a : Theorem) → Is defs a (held (right a.concl)) → CanMkComb defs (plain defs own_and) a
once_asks defs a e = subst (CanMkComb defs (plain defs own_and)) (sym e) (once_at defs a (right a.concl))

abbrev Once : List Def → Theorem → Theorem
Once defs a = by_both defs (plain defs own_and) a (mk_comb_concl own_and a.concl)

twice_at : (defs : List Def) (a b : Theorem) (p q : Tm) → CanMkComb defs (Once defs (by_one defs a (held p))) (by_one defs b (held q))
twice_at defs a b p q = (whole, whole, refl, refl)

pub twice_asks : (defs : List Def) (a b : Theorem) → Is defs a (held (right a.concl)) → Is defs b (held (right b.concl)) → CanMkComb defs (Once defs a) b
twice_asks defs a b e f =
    subst (λ (x : Theorem). CanMkComb defs (Once defs x) b) (sym e)
    (subst (CanMkComb defs (Once defs (by_one defs a (held (right a.concl))))) (sym f) (twice_at defs a b (right a.concl) (right b.concl)))

abbrev Twice : List Def → Theorem → Theorem → Theorem
Twice defs a b = by_both defs (Once defs a) b (mk_comb_concl (Once defs a).concl b.concl)

abbrev Sides : Tm → Tm → Tm
Sides p q = equal truth_type (conjunction true_constant true_constant) (conjunction p q)

twice_is : (defs : List Def) (a b : Theorem) (p q : Tm) → IsSet a.hyps → ArePromises a.promises → Twice defs (by_one defs a (held p)) (by_one defs b (held q)) ≡ by_both defs a b (Sides p q)
twice_is defs a b p q h k = rw (union_nothing a.hyps h, promises_alone a.promises k) refl

pub twice_gives : (defs : List Def) (a b : Theorem) → Is defs a (held (right a.concl)) → Is defs b (held (right b.concl)) → IsSet a.hyps → ArePromises a.promises →
    Twice defs a b ≡ by_both defs a b (Sides (right a.concl) (right b.concl))
twice_gives defs a b e f h k =
    ap (λ (x : Theorem). Twice defs x b) e ∙ ap (Twice defs (by_one defs a (held (right a.concl)))) f ∙ twice_is defs a b (right a.concl) (right b.concl) h k

-- what follows from `(T /\ T) = p`
abbrev Truths : Tm
Truths = conjunction true_constant true_constant

from_at : (defs : List Def) (a : Theorem) (p : Tm) → CanEqMp defs (by_one defs a (equal truth_type Truths p)) (plain [] Truths)
from_at defs a p = (whole, from_nothing defs, refl)

pub from_truths_asks : (defs : List Def) (a : Theorem) → Is defs a (equal truth_type Truths (right a.concl)) → CanEqMp defs a (plain [] Truths)
from_truths_asks defs a e = subst (λ (x : Theorem). CanEqMp defs x (plain [] Truths)) (sym e) (from_at defs a (right a.concl))
