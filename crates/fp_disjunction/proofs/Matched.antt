-- Two equations of formulas with one left side.
use Rattle.std.proofs.Common.{◌≡◌, ◌∙◌, List, refl, sym, ap, subst}
use Rattle.fp_term.specs.Terms.{Tm}
use Rattle.fp_term.specs.Signatures.{IsWellTyped}
use Rattle.fp_conclude.specs.Logic.{truth_type, equal}
use Rattle.fp_kernel.specs.Definitions.{Def, Within, whole}
use Rattle.fp_kernel.specs.Start.{signature_of}
use Rattle.fp_kernel.specs.Theorems.{Theorem, IsTheorem, plain, by_one, by_both}
use Rattle.fp_conclude.specs.Shapes.{left, right}
use Rattle.fp_logic.specs.Steps.{own_equality, CanTurn, turned}
use Rattle.fp_logic.proofs.Turning.{lifted_sides}

abbrev First : List Def → Theorem → Type 0
First defs a = a ≡ by_one defs a (equal truth_type (left a.concl) (right a.concl))

abbrev Second : List Def → Tm → Theorem → Type 0
Second defs l b = b ≡ plain defs (equal truth_type l (right b.concl))

pub first_typed : (defs : List Def) (a : Theorem) → First defs a → IsTheorem a → IsWellTyped (signature_of defs) (left a.concl) truth_type
first_typed defs a e d =
    (lifted_sides defs a truth_type (left a.concl) (right a.concl) (subst (λ (x : Theorem). Within x.defs defs) (sym e) whole) d (ap (λ (x : Theorem). x.concl) e)).left

match_as : (defs : List Def) (a : Theorem) (l r s : Tm) → CanTurn defs (plain defs (own_equality truth_type)) (by_one defs a (equal truth_type l r)) (plain defs (equal truth_type l s)) (plain defs (equal truth_type l l))
match_as defs a l r s = (refl, whole, whole, refl, refl, refl)

pub match_asks : (defs : List Def) (a b : Theorem) → First defs a → Second defs (left a.concl) b → CanTurn defs (plain defs (own_equality truth_type)) a b (plain defs (equal truth_type (left a.concl) (left a.concl)))
match_asks defs a b e f =
    let o = plain defs (own_equality truth_type) in
    let c = plain defs (equal truth_type (left a.concl) (left a.concl)) in
    subst (λ (y : Theorem). CanTurn defs o a y c) (sym f)
    (subst (λ (x : Theorem). CanTurn defs o x (plain defs (equal truth_type (left a.concl) (right b.concl))) c) (sym e) (match_as defs a (left a.concl) (right a.concl) (right b.concl)))

match_is : (defs : List Def) (a b : Theorem) (l r s : Tm) → a ≡ by_one defs a (equal truth_type l r) → b ≡ plain defs (equal truth_type l s) → by_both defs a b (turned a.concl b.concl) ≡ by_one defs a (equal truth_type r s)
match_is defs a b l r s e f =
    ap (λ (y : Theorem). by_both defs a y (turned a.concl y.concl)) f ∙ ap (λ (x : Theorem). by_one defs a (turned x.concl (equal truth_type l s))) e

pub match_gives : (defs : List Def) (a b : Theorem) → First defs a → Second defs (left a.concl) b → by_both defs a b (turned a.concl b.concl) ≡ by_one defs a (equal truth_type (right a.concl) (right b.concl))
match_gives defs a b e f = match_is defs a b (left a.concl) (right a.concl) (right b.concl) e f
