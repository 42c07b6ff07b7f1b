-- Terms bound by a variable, and opened by it again.
use Rattle.std.proofs.Common.{◌≡◌, ℕ, zero, suc, ◌+◌, ◌≤◌, ◌==◌, Bool, true, false, cond, ◌&&◌, List, [], ◌∷◌, length, refl, ap, arith}
use Rattle.std.specs.Prelude.{Some}
use Rattle.std.specs.List.{slice_get}
use Rattle.std.specs.Str.{bytes_eq}
use Rattle.std.proofs.lemmas.Option.{none-some}
use Rattle.std.proofs.lemmas.Bool.Decides.{Decides-and, Decides-eqb}
use Rattle.std.proofs.lemmas.Slice.Eq.{bytes_eq-Decides}
use Rattle.fp_term.specs.Types.{Typ, type_eq}
use Rattle.fp_term.specs.Terms.{Tm, bound, free, constant, app, abs, opened, closed}
use Rattle.fp_term.specs.Typing.{type_under, function_type}
use Rattle.fp_term.proofs.Equal.{type_eq-decides}
use Rattle.fp_term.proofs.Typed.{app_parts, abs_parts}
use Rattle.fp_conclude.specs.Hypotheses.{occurs}

placed : (env : List Typ) (n : ℕ) (s : Typ) → slice_get env n ≡ Some s → suc n ≤ length env
placed [] n s e = absurd (none-some s e)
placed (t ∷ env) zero s e = omega arith
placed (t ∷ env) (suc n) s e = let h = placed env n s e in omega arith

unmoved : (b : Bool) (at n : ℕ) (by : Tm) → (n == at) ≡ b → (n ≡ at → ⊥) → cond b by (bound n) ≡ bound n
unmoved true at n by e h = absurd (h ((Decides-eqb n at).0 e))
unmoved false at n by e h = refl

module _ (name : List ℕ) (ty : Typ) where
  variable_back : (b : Bool) (at : ℕ) (a : List ℕ) (s : Typ) → (bytes_eq a name && type_eq s ty) ≡ b → opened at (free name ty) (cond b (bound at) (free a s)) ≡ free a s
  variable_back true at a s e =
      let d = (Decides-and (bytes_eq a name) (type_eq s ty) (bytes_eq-Decides a name) (type_eq-decides s ty)).0 e in
      rw ((Decides-eqb at at).1 refl, d.0, d.1) refl
  variable_back false at a s e = refl

  back : (env : List Typ) (t : Tm) (s : Typ) (at : ℕ) → type_under env t ≡ Some s → length env ≤ at → opened at (free name ty) (closed at name ty t) ≡ t
  back env (bound n) s at e h = let k = placed env n s e in unmoved (n == at) at n (free name ty) refl (λ same. omega arith)
  back env (free a u) s at e h = variable_back (bytes_eq a name && type_eq u ty) at a u refl
  back env (constant a u) s at e h = refl
  back env (app f x) s at e h =
      let p = app_parts env f x s e in
      rw (back env f (function_type p.0 s) at p.1 h, back env x p.0 at p.2 h) refl
  back env (abs u x) s at e h =
      let p = abs_parts env u x s e in
      let k : length (u ∷ env) ≤ at + 1 = omega arith in
      ap (abs u) (back (u ∷ env) x p.0 (at + 1) p.1 k)

  variable_gone : (b : Bool) (at : ℕ) (a : List ℕ) (s : Typ) → (bytes_eq a name && type_eq s ty) ≡ b → occurs name ty (cond b (bound at) (free a s)) ≡ false
  variable_gone true at a s e = refl
  variable_gone false at a s e = e

  -- a variable isn't free in what is bound by it
  pub occurs_closed : (at : ℕ) (t : Tm) → occurs name ty (closed at name ty t) ≡ false
  occurs_closed at (bound n) = refl
  occurs_closed at (free a s) = variable_gone (bytes_eq a name && type_eq s ty) at a s refl
  occurs_closed at (constant a s) = refl
  occurs_closed at (app f x) = rw (occurs_closed at f, occurs_closed at x) refl
  occurs_closed at (abs s x) = occurs_closed (at + 1) x

  -- what was bound opens to what it was
  pub opened_back : (t : Tm) (s : Typ) → type_under [] t ≡ Some s → opened 0 (free name ty) (closed 0 name ty t) ≡ t
  opened_back t s e = back [] t s 0 e (omega arith)
