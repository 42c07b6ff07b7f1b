-- The definition of `all` at a type, and the steps from it.
use Rattle.std.proofs.Common.{◌≡◌, ℕ, List, refl, sym, ap, subst}
use Rattle.fp_term.specs.Types.{Typ}
use Rattle.fp_term.specs.Terms.{Tm}
use Rattle.fp_term.specs.Signatures.{IsWellTyped}
use Rattle.fp_conclude.specs.Logic.{predicate_type, equal}
use Rattle.fp_kernel.specs.Definitions.{Def, Within, whole}
use Rattle.fp_kernel.specs.Start.{signature_of}
use Rattle.fp_kernel.specs.Derivability.{IsFormula}
use Rattle.fp_kernel.specs.Theorems.{Theorem, IsTheorem, plain, by_one}
use Rattle.fp_conclude.specs.Shapes.{left}
use Rattle.fp_logic.specs.Steps.{CanUnfold}
use Rattle.fp_logic.proofs.Turning.{lifted, lifted_sides}
use Rattle.fp_quant.specs.Meanings.{always, universal_at}

-- `all` at a type
pub universal_asks : (defs : List Def) (s : Typ) (p : Tm) → CanUnfold defs (plain defs (universal_at s)) (plain defs (equal (predicate_type s) p p))
universal_asks defs s p = ((whole, whole, refl, refl), refl)

-- at a term
pub always_asks : (defs : List Def) (a : Theorem) (s : Typ) (p t : Tm) → CanUnfold defs (by_one defs a (always s p)) (plain defs (equal s t t))
always_asks defs a s p t = ((whole, whole, refl, refl), refl)

-- the sides of what was derived are well typed
made_within : (defs : List Def) (th a : Theorem) (p : Tm) → th ≡ by_one defs a p → Within th.defs defs
made_within defs th a p e = subst (λ (x : Theorem). Within x.defs defs) (sym e) whole

pub left_made : (defs : List Def) (th a : Theorem) (s : Typ) (t u : Tm) → th ≡ by_one defs a (equal s t u) → IsTheorem th → IsWellTyped (signature_of defs) t s
left_made defs th a s t u e d = (lifted_sides defs th s t u (made_within defs th a (equal s t u) e) d (ap (λ (x : Theorem). x.concl) e)).left

pub concl_made : (defs : List Def) (th a : Theorem) (t : Tm) → th ≡ by_one defs a t → IsTheorem th → IsFormula (signature_of defs) t
concl_made defs th a t e d = subst (IsFormula (signature_of defs)) (ap (λ (x : Theorem). x.concl) e) (lifted defs th (made_within defs th a t e) d)
