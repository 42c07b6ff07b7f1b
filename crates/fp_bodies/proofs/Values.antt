-- The types of tuples, and of what is put into sums and taken out of them.
use Rattle.std.proofs.Common.{◌≡◌, ◌∙◌, ℕ, zero, suc, List, [], ◌∷◌, refl, sym}
use Rattle.std.specs.Prelude.{Some}
use Rattle.std.specs.List.{slice_get}
use Rattle.fp_term.specs.Types.{Typ}
use Rattle.fp_term.specs.Terms.{Tm, app}
use Rattle.fp_term.specs.Typing.{type_under, function_type}
use Rattle.fp_term.proofs.Typed.{app_typed}
use Rattle.fp_shapes.specs.Tuples.{pair_type, pairing, tuple_type, tuple}
use Rattle.fp_shapes.specs.Sums.{sum_type, sums, left_in, right_in, left_out, right_out, inject, project}
use Rattle.fp_bodies.specs.Fits.{HaveTypes}

pub tuple_typed : (s : Typ) (tys : List Typ) (ts : List Tm) → HaveTypes (s ∷ tys) ts → type_under [] (tuple (s ∷ tys) ts) ≡ Some (tuple_type (s ∷ tys))
tuple_typed s tys [] h = absurd h
tuple_typed s [] (a ∷ ts) h = h.0
tuple_typed s (t ∷ tys) (a ∷ ts) h =
    let rest = tuple_type (t ∷ tys) in
    app_typed [] (app (pairing s rest) a) (tuple (t ∷ tys) ts) rest (pair_type s rest)
    (app_typed [] (pairing s rest) a s (function_type rest (pair_type s rest)) refl h.0) (tuple_typed t tys ts h.1)

pub inject_typed : (tys : List Typ) (i : ℕ) (s : Typ) (t : Tm) → slice_get tys i ≡ Some s → type_under [] t ≡ Some s → type_under [] (inject tys i t) ≡ Some (sums tys)
inject_typed [] i s t e h = cc
inject_typed (u ∷ []) zero s t e h = h ∙ sym e
inject_typed (u ∷ []) (suc i) s t e h = cc
inject_typed (u ∷ v ∷ tys) zero s t e h = app_typed [] (left_in u (sums (v ∷ tys))) t u (sum_type u (sums (v ∷ tys))) refl (h ∙ sym e)
inject_typed (u ∷ v ∷ tys) (suc i) s t e h =
    app_typed [] (right_in u (sums (v ∷ tys))) (inject (v ∷ tys) i t) (sums (v ∷ tys)) (sum_type u (sums (v ∷ tys))) refl (inject_typed (v ∷ tys) i s t e h)

pub project_typed : (tys : List Typ) (i : ℕ) (s : Typ) (t : Tm) → slice_get tys i ≡ Some s → type_under [] t ≡ Some (sums tys) → type_under [] (project tys i t) ≡ Some s
project_typed [] i s t e h = cc
project_typed (u ∷ []) zero s t e h = h ∙ e
project_typed (u ∷ []) (suc i) s t e h = cc
project_typed (u ∷ v ∷ tys) zero s t e h = app_typed [] (left_out u (sums (v ∷ tys))) t (sum_type u (sums (v ∷ tys))) u refl h ∙ e
project_typed (u ∷ v ∷ tys) (suc i) s t e h =
    project_typed (v ∷ tys) i s (app (right_out u (sums (v ∷ tys))) t) e (app_typed [] (right_out u (sums (v ∷ tys))) t (sum_type u (sums (v ∷ tys))) (sums (v ∷ tys)) refl h)
