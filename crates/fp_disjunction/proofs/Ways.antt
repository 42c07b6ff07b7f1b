-- The steps from a disjunction.
use Rattle.std.proofs.Common.{◌≡◌, ℕ, ◌+◌, ◌≤◌, ◌<◌, ◌==◌, Bool, true, false, cond, List, [], ◌∷◌, length, refl, ap, subst, arith}
use Rattle.std.specs.Prelude.{Some}
use Rattle.std.proofs.lemmas.Option.{slice_get_within}
use Rattle.std.proofs.lemmas.Bool.Decides.{Decides-eqb}
use Rattle.fp_term.specs.Types.{Typ}
use Rattle.fp_term.specs.Terms.{Tm, bound, free, constant, app, abs, opened}
use Rattle.fp_term.specs.Typing.{type_under, function_type}
use Rattle.fp_term.specs.Signatures.{IsWellTyped}
use Rattle.fp_term.proofs.Typed.{app_parts, abs_parts}
use Rattle.fp_conclude.specs.Logic.{truth_type, equal, true_constant}
use Rattle.fp_kernel.specs.Definitions.{Def, Within, whole}
use Rattle.fp_kernel.specs.Start.{signature_of}
use Rattle.fp_kernel.specs.Derivability.{IsFormula}
use Rattle.fp_kernel.specs.Theorems.{Theorem, IsTheorem, plain}
use Rattle.fp_disjunction.specs.Schemas.{each_way, all_ways}
use Rattle.fp_logic.proofs.Given.{Reduced}
use Rattle.fp_logic.proofs.Turning.{lifted_sides}

number_stays : (at n : ℕ) (by : Tm) (b : Bool) → (n == at) ≡ b → n < at → cond b by (bound n) ≡ bound n
number_stays at n by true e h = let same : n ≡ at = (Decides-eqb n at).0 e in absurd (omega arith)
number_stays at n by false e h = refl

-- a term has no number beyond those that it is typed under
opened_stays : (by : Tm) (env : List Typ) (at : ℕ) (t : Tm) (s : Typ) → length env ≤ at → type_under env t ≡ Some s → opened at by t ≡ t
opened_stays by env at (bound n) s h e = let k = slice_get_within env n s e in number_stays at n by (n == at) refl (omega arith)
opened_stays by env at (free a u) s h e = refl
opened_stays by env at (constant a u) s h e = refl
opened_stays by env at (app f x) s h e =
    let p = app_parts env f x s e in
    rw (opened_stays by env at f (function_type p.0 s) h p.1, opened_stays by env at x p.0 h p.2) refl
opened_stays by env at (abs u x) s h e =
    let p = abs_parts env u x s e in
    let k : length (u ∷ env) ≤ at + 1 = omega arith in
    ap (abs u) (opened_stays by (u ∷ env) (at + 1) x p.0 k p.1)

formula_stays : (defs : List Def) (at : ℕ) (by t : Tm) → IsFormula (signature_of defs) t → opened at by t ≡ t
formula_stays defs at by t h = opened_stays by [] at t truth_type (omega arith) h.typed

pub ways_reduced : (defs : List Def) (l r t : Tm) → IsFormula (signature_of defs) l → IsFormula (signature_of defs) r →
    Reduced defs (app (all_ways l r) t) truth_type ≡ plain defs (equal truth_type (app (all_ways l r) t) (each_way l r t))
ways_reduced defs l r t h k = rw (formula_stays defs 0 t l h, formula_stays defs 0 t r k) refl

-- the redex on the left of an equation with `T`
pub ways_typed : (defs : List Def) (a : Theorem) (l r t : Tm) → a.defs ≡ defs → IsTheorem a → a.concl ≡ equal truth_type (app (all_ways l r) t) true_constant → IsWellTyped (signature_of defs) (app (all_ways l r) t) truth_type
ways_typed defs a l r t o d e = (lifted_sides defs a truth_type (app (all_ways l r) t) true_constant (subst (λ (x : List Def). Within a.defs x) o whole) d e).left
