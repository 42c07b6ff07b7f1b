-- Instances of what has no hypotheses.
use Rattle.std.proofs.Common.{◌≡◌, ℕ, true, List, [], refl, sym, subst}
use Rattle.std.specs.Prelude.{Result, IfOk, codes}
use Rattle.fp_term.specs.Types.{Typ, type_eq}
use Rattle.fp_term.specs.Terms.{Tm, app, replaced, retyped_term}
use Rattle.fp_term.proofs.Equal.{type_eq-decides}
use Rattle.fp_conclude.specs.Logic.{truth_type, alpha, implication}
use Rattle.fp_kernel.specs.Definitions.{Def, Within, whole}
use Rattle.fp_kernel.specs.Theorems.{Theorem, plain}
use Rattle.fp_forms.specs.Schemas.{q_variable}
use Rattle.fp_forms.specs.Existence.{predicate_variable, holds, some_such, reaches, each_chosen}
use Rattle.fp_quant.specs.Meanings.{for_alpha}
use Rattle.fp_quant.specs.Existence.{placed}

pub plain_within : (defs : List Def) (th : Theorem) → th ≡ plain defs th.concl → Within th.defs defs
plain_within defs th e = subst (λ (x : Theorem). Within x.defs defs) (sym e) whole

-- the instances of the three schemas
own_type : (s : Typ) → type_eq s s ≡ true
own_type s = (type_eq-decides s s).1 refl

pub introduction_is : (s : Typ) (p t : Tm) → replaced (placed s p (codes "x") s t) (retyped_term (for_alpha s) (implication holds (some_such alpha predicate_variable))) ≡ implication (app p t) (some_such s p)
introduction_is s p t = rw (own_type s) refl

pub elimination_is : (s : Typ) (p q : Tm) →
    replaced (placed s p (codes "q") truth_type q) (retyped_term (for_alpha s) (implication (some_such alpha predicate_variable) (reaches alpha predicate_variable q_variable))) ≡ implication (some_such s p) (reaches s p q)
elimination_is s p q = rw (own_type s) refl

pub choice_is : (s : Typ) (p : Tm) (name : List ℕ) (ty : Typ) (t : Tm) → replaced (placed s p name ty t) (retyped_term (for_alpha s) (each_chosen alpha predicate_variable)) ≡ each_chosen s p
choice_is s p name ty t = rw (own_type s) refl

-- a theorem without hypotheses, with an equal conclusion
pub plain_is : {E : Type 0} (r : Result Theorem E) (defs : List Def) (p q : Tm) → p ≡ q → IfOk r (λ th. th ≡ plain defs p) → IfOk r (λ th. th ≡ plain defs q)
plain_is r defs p q e h = subst (λ (x : Tm). IfOk r (λ th. th ≡ plain defs x)) e h
