-- What the rules give on premises of their shape.
use Rattle.std.proofs.Common.{◌≡◌, ℕ, true, false, List, [], ◌∷◌, refl, ap}
use Rattle.std.specs.Prelude.{Some, None}
use Rattle.fp_term.specs.declared.signature.Signature.{Signature}
use Rattle.fp_term.specs.Types.{Typ, type_eq}
use Rattle.fp_term.specs.Terms.{Tm, app, abs, term_eq, opened, closed, replaced, retyped_term}
use Rattle.fp_term.specs.Typing.{type_under, function_type, here_unless, ill_typed}
use Rattle.fp_term.specs.Terms.{bound, free, constant}
use Rattle.fp_term.specs.Signatures.{IsType, IsWellTyped, unknown_in_type}
use Rattle.fp_term.proofs.Equal.{type_eq-decides, term_eq-decides}
use Rattle.fp_term.proofs.Known.{over_known, known_type}
use Rattle.fp_term.proofs.Typed.{app_parts, abs_parts}
use Rattle.fp_conclude.specs.Logic.{truth_type, equal}
use Rattle.fp_conclude.specs.Hypotheses.{occurs_in_any}
use Rattle.fp_conclude.specs.Outcomes.{gives}
use Rattle.fp_conclude.specs.Checks.{typed, typed_over, unknown_in_pairs, fitting, unknown_in_type_pairs, AreTerms, AreTypesOf}
use Rattle.fp_conclude.proofs.Equations.{equal_parts}
use Rattle.fp_conclude.specs.Rules.{refl_of, trans_of, mk_comb_of, lam_of, beta_of, assume_of, eq_mp_of, inst_of, inst_ty_of}

own_type : (s : Typ) → type_eq s s ≡ true
own_type s = (type_eq-decides s s).1 refl

own_term : (t : Tm) → term_eq t t ≡ true
own_term t = (term_eq-decides t t).1 refl

-- a term with a type has no ill-typed subterm
pub well_placed : (env : List Typ) (t : Tm) (s : Typ) → type_under env t ≡ Some s → ill_typed env t ≡ None
well_placed env (bound n) s e = ap here_unless e
well_placed env (free name u) s e = refl
well_placed env (constant name u) s e = refl
well_placed env (app f x) s e =
    let b = app_parts env f x s e in
    rw (well_placed env f (function_type b.0 s) b.1, well_placed env x b.0 b.2) (ap here_unless e)
well_placed env (abs u x) s e =
    let b = abs_parts env u x s e in
    rw (well_placed (u ∷ env) x b.0 b.1) refl

typed_gives : (t : Tm) (s : Typ) → type_under [] t ≡ Some s → typed t ≡ gives s
typed_gives t s e = rw (well_placed [] t s e, e) refl

pub typed_over_gives : (g : Signature) (t : Tm) (s : Typ) → IsWellTyped g t s → typed_over g t ≡ gives s
unfolding typed_over
typed_over_gives g t s h = rw (over_known g t h.over) (typed_gives t s h.typed)

pub refl_gives : (g : Signature) (t : Tm) (s : Typ) → IsWellTyped g t s → refl_of g t ≡ gives (equal s t t)
refl_gives g t s h = rw (typed_over_gives g t s h) refl

pub trans_gives : (s : Typ) (t u v : Tm) → trans_of (equal s t u) (equal s u v) ≡ gives (equal s t v)
trans_gives s t u v = rw (own_type s, own_term u) refl

pub mk_comb_gives : (s r : Typ) (f g x y : Tm) → mk_comb_of (equal (function_type s r) f g) (equal s x y) ≡ gives (equal r (app f x) (app g y))
mk_comb_gives s r f g x y = rw (equal_parts (function_type s r) f g, equal_parts s x y, own_type s) refl

pub lam_gives : (g : Signature) (name : List ℕ) (ty s : Typ) (hyps : List Tm) (t u : Tm) → IsType g ty → occurs_in_any name ty hyps ≡ false →
    lam_of g name ty hyps (equal s t u) ≡ gives (equal (function_type ty s) (abs ty (closed 0 name ty t)) (abs ty (closed 0 name ty u)))
lam_gives g name ty s hyps t u h apart = rw (known_type g ty h, own_type s, apart) refl

pub beta_gives : (g : Signature) (ty s : Typ) (body arg : Tm) → IsWellTyped g (app (abs ty body) arg) s → beta_of g (app (abs ty body) arg) ≡ gives (equal s (app (abs ty body) arg) (opened 0 arg body))
beta_gives g ty s body arg h = rw (typed_over_gives g (app (abs ty body) arg) s h) refl

pub assume_gives : (g : Signature) (t : Tm) → IsWellTyped g t truth_type → assume_of g t ≡ gives t
assume_gives g t h = rw (typed_over_gives g t truth_type h) refl

pub eq_mp_gives : (s : Typ) (p q : Tm) → eq_mp_of (equal s p q) p ≡ gives q
eq_mp_gives s p q = rw (own_type s, own_term p) refl

first_none : (g : Signature) (pairs : List (List ℕ × Typ × Tm)) → AreTerms g pairs → ((s : Typ) (t : Tm) → IsWellTyped g t s → unknown_in_type g s ≡ None) → unknown_in_pairs g pairs ≡ None
first_none g [] h k = refl
first_none g (pair ∷ rest) h k = rw (k pair.1 pair.2 h.0, over_known g pair.2 h.0.over) (first_none g rest h.1 k)

pub fitting_gives : (g : Signature) (pairs : List (List ℕ × Typ × Tm)) → AreTerms g pairs → fitting true pairs ≡ gives true
unfolding fitting
fitting_gives g [] h = refl
fitting_gives g (pair ∷ rest) h = rw (typed_gives pair.2 pair.1 h.0.typed, own_type pair.1) (fitting_gives g rest h.1)

-- the types of the terms are of the signature, as over each list of definitions
pub inst_gives : (g : Signature) (pairs : List (List ℕ × Typ × Tm)) (p : Tm) → ((s : Typ) (t : Tm) → IsWellTyped g t s → unknown_in_type g s ≡ None) → AreTerms g pairs → inst_of g pairs p ≡ gives (replaced pairs p)
inst_gives g pairs p k h = rw (first_none g pairs h k, fitting_gives g pairs h) refl

types_known : (g : Signature) (pairs : List (List ℕ × Typ)) → AreTypesOf g pairs → unknown_in_type_pairs g pairs ≡ None
types_known g [] h = refl
types_known g (pair ∷ rest) h = rw (known_type g pair.1 h.0) (types_known g rest h.1)

pub inst_ty_gives : (g : Signature) (pairs : List (List ℕ × Typ)) (p : Tm) → AreTypesOf g pairs → inst_ty_of g pairs p ≡ gives (retyped_term pairs p)
inst_ty_gives g pairs p h = rw (types_known g pairs h) refl
