-- The steps from `F`.
use Rattle.std.proofs.Common.{◌≡◌, ℕ, List, [], ◌∷◌, refl, sym, ap, subst}
use Rattle.std.specs.Prelude.{codes}
use Rattle.fp_term.specs.Types.{Typ}
use Rattle.fp_term.specs.Terms.{Tm, app}
use Rattle.fp_term.specs.Signatures.{IsWellTyped}
use Rattle.fp_term.specs.Names.{truth}
use Rattle.fp_term.proofs.Typed.{app_typed}
use Rattle.fp_conclude.specs.Logic.{truth_type, predicate_type, equal}
use Rattle.fp_conclude.specs.Checks.{AreTypesOf}
use Rattle.fp_kernel.specs.Definitions.{Def, whole}
use Rattle.fp_kernel.specs.Start.{signature_of}
use Rattle.fp_kernel.specs.Derivability.{IsFormula}
use Rattle.fp_kernel.specs.Theorems.{Theorem, plain, by_one, by_both}
use Rattle.fp_kernel.proofs.Growing.{from_start}
use Rattle.fp_conclude.specs.Shapes.{left}
use Rattle.fp_forms.specs.Schemas.{identity}
use Rattle.fp_disjunction.specs.Schemas.{always_true, universal_is}
use Rattle.fp_logic.specs.Steps.{CanUnfold, unfolded}
use Rattle.fp_logic.proofs.Concrete.{at_start}

abbrev pub for_alpha : List (List ℕ × Typ)
for_alpha = (codes "a", truth_type) ∷ []

pub alpha_known : (defs : List Def) → AreTypesOf (signature_of defs) for_alpha
alpha_known defs = (((from_start defs).types truth 0 refl, tt), tt)

pub universal_asks : (defs : List Def) (p : Tm) → CanUnfold defs (plain defs universal_is) (plain defs (equal (predicate_type truth_type) p p))
universal_asks defs p = ((whole, whole, refl, refl), refl)

-- at a term
always_as : (defs : List Def) (a : Theorem) (p t : Tm) → CanUnfold defs (by_one defs a (always_true p)) (plain defs (equal truth_type t t))
always_as defs a p t = ((whole, whole, refl, refl), refl)

pub always_asks : (defs : List Def) (a : Theorem) (t : Tm) → a ≡ by_one defs a (always_true (left a.concl)) → CanUnfold defs a (plain defs (equal truth_type t t))
always_asks defs a t e = subst (λ (x : Theorem). CanUnfold defs x (plain defs (equal truth_type t t))) (sym e) (always_as defs a (left a.concl) t)

pub always_gives : (defs : List Def) (a : Theorem) (t : Tm) → a ≡ by_one defs a (always_true (left a.concl)) →
    by_both defs a (plain defs (equal truth_type t t)) (unfolded a.concl (equal truth_type t t)) ≡ by_one defs a (unfolded (always_true (left a.concl)) (equal truth_type t t))
always_gives defs a t e = ap (λ (x : Theorem). by_one defs a (unfolded x.concl (equal truth_type t t))) e

pub identity_typed : (defs : List Def) (t : Tm) → IsFormula (signature_of defs) t → IsWellTyped (signature_of defs) (app identity t) truth_type
identity_typed defs t h =
    let i = at_start defs identity (predicate_type truth_type) refl refl in
    record { typed = app_typed [] identity t truth_type truth_type i.typed h.typed; over = (i.over, h.over) }
