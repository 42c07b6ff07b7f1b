-- Whether a term is a measure is seen from its type.
use Rattle.std.proofs.Common.{◌≡◌, ◌∙◌, ℕ, Bool, true, false, List, [], ◌∷◌, refl, sym, ap}
use Rattle.std.specs.Prelude.{Some, None, MatchBool}
use Rattle.fp_term.specs.Types.{Typ, type_eq}
use Rattle.fp_term.specs.Terms.{Tm, bound, free, constant, app, abs, is_open}
use Rattle.fp_term.specs.Typing.{type_under, function_type, ill_typed}
use Rattle.fp_term.specs.Faults.{HasType}
use Rattle.fp_term.proofs.Equal.{type_eq-decides}
use Rattle.fp_term.proofs.Typed.{app_parts, abs_parts}
use Rattle.fp_measure.specs.Sources.{natural, IsMeasure}

-- a term that has a type has no ill-typed part
whole_typed : (env : List Typ) (t : Tm) (s : Typ) → type_under env t ≡ Some s → ill_typed env t ≡ None
whole_typed env (bound n) s e = rw e refl
whole_typed env (free a u) s e = refl
whole_typed env (constant a u) s e = refl
whole_typed env (app f x) s e =
    let p = app_parts env f x s e in
    let one = whole_typed env f (function_type p.0 s) p.1 in
    let two = whole_typed env x p.0 p.2 in
    rw (one, two, e) refl
whole_typed env (abs u x) s e =
    let p = abs_parts env u x s e in
    let inner = whole_typed (u ∷ env) x p.0 p.1 in
    rw inner refl

pub open_none : (ty : Typ) (t : Tm) → is_open t ≡ true → IsMeasure ty t → ⊥
open_none ty t o m = let c = m.closed in cc

-- whether the type that it has is the one that is wanted
typed_one : (ty s w : Typ) (t : Tm) → is_open t ≡ false → type_under [] t ≡ Some s → w ≡ function_type ty natural → type_eq s w ≡ true → IsMeasure ty t
typed_one ty s w t c e is same = record { closed = c; typed = e ∙ ap Some ((type_eq-decides s w).0 same ∙ is) }

other_typed : (ty s w : Typ) (t : Tm) → type_under [] t ≡ Some s → w ≡ function_type ty natural → type_eq s w ≡ false → IsMeasure ty t → ⊥
other_typed ty s w t e is other m =
    let both : Some s ≡ Some (function_type ty natural) = sym e ∙ m.typed in
    let same : s ≡ function_type ty natural = cc in
    let f = (type_eq-decides s w).1 (same ∙ sym is) in
    cc

pub untyped_none : (ty : Typ) (t : Tm) (place : List ℕ) → ill_typed [] t ≡ Some place → IsMeasure ty t → ⊥
untyped_none ty t place e m = let f = whole_typed [] t (function_type ty natural) m.typed in cc

answered : (ty s w : Typ) (t : Tm) (b : Bool) → b ≡ type_eq s w → is_open t ≡ false → type_under [] t ≡ Some s → w ≡ function_type ty natural → MatchBool b (IsMeasure ty t) (IsMeasure ty t → ⊥)
answered ty s w t true same c e is = typed_one ty s w t c e is (sym same)
answered ty s w t false same c e is = other_typed ty s w t e is (sym same)

pub decided : (ty : Typ) (t : Tm) (s w d n : Typ) (b : Bool) → b ≡ type_eq s w → is_open t ≡ false → HasType [] t s → w ≡ function_type d n → d ≡ ty → n ≡ natural →
    MatchBool b (IsMeasure ty t) (IsMeasure ty t → ⊥)
decided ty t s w d n b same c e w_is d_is n_is = answered ty s w t b same c e.type_is (rw (d_is, n_is) at w_is)
