-- Opening a body with a variable that isn't free in it, and closing again.
use Rattle.std.proofs.Common.{◌≡◌, ℕ, zero, suc, ◌+◌, ◌≤◌, ◌==◌, Bool, true, false, cond, ◌&&◌, ◌||◌, List, [], ◌∷◌, length, refl, ap, arith}
use Rattle.std.specs.Prelude.{Some}
use Rattle.std.specs.List.{slice_get}
use Rattle.std.specs.Str.{bytes_eq}
use Rattle.std.proofs.lemmas.Option.{none-some}
use Rattle.std.proofs.lemmas.Bool.Decides.{Decides-and, Decides-eqb}
use Rattle.std.proofs.lemmas.Slice.Eq.{bytes_eq-Decides}
use Rattle.fp_term.specs.Types.{Typ, type_eq}
use Rattle.fp_term.specs.Terms.{Tm, bound, free, constant, app, abs, size_of, opened, closed}
use Rattle.fp_term.specs.Typing.{type_under, function_type}
use Rattle.fp_term.proofs.Equal.{type_eq-decides}
use Rattle.fp_term.proofs.Typed.{app_parts, abs_parts}
use Rattle.fp_conclude.specs.Hypotheses.{occurs}

pub neither : (a b : Bool) → (a || b) ≡ false → (a ≡ false) × (b ≡ false)
neither true b e = cc
neither false b e = (refl, e)

-- a place in a list is before its end
placed : (env : List Typ) (n : ℕ) (s : Typ) → slice_get env n ≡ Some s → suc n ≤ length env
placed [] n s e = absurd (none-some s e)
placed (t ∷ env) zero s e = omega arith
placed (t ∷ env) (suc n) s e = let h = placed env n s e in omega arith

unmoved : (b : Bool) (at n : ℕ) (by : Tm) → (n == at) ≡ b → (n ≡ at → ⊥) → cond b by (bound n) ≡ bound n
unmoved true at n by e h = absurd (h ((Decides-eqb n at).0 e))
unmoved false at n by e h = refl

-- a term with a type under the abstractions has no later loose number
pub opened_whole : (env : List Typ) (t : Tm) (s : Typ) (at : ℕ) (by : Tm) → type_under env t ≡ Some s → length env ≤ at → opened at by t ≡ t
opened_whole env (bound n) s at by e h = let k = placed env n s e in unmoved (n == at) at n by refl (λ same. omega arith)
opened_whole env (free a u) s at by e h = refl
opened_whole env (constant a u) s at by e h = refl
opened_whole env (app f x) s at by e h =
    let p = app_parts env f x s e in
    rw (opened_whole env f (function_type p.0 s) at by p.1 h, opened_whole env x p.0 at by p.2 h) refl
opened_whole env (abs u x) s at by e h =
    let p = abs_parts env u x s e in
    let k : length (u ∷ env) ≤ at + 1 = omega arith in
    ap (abs u) (opened_whole (u ∷ env) x p.0 (at + 1) by p.1 k)

module _ (name : List ℕ) (ty : Typ) where
  pub itself : (bytes_eq name name && type_eq ty ty) ≡ true
  itself = (Decides-and (bytes_eq name name) (type_eq ty ty) (bytes_eq-Decides name name) (type_eq-decides ty ty)).1 (refl, refl)

  -- where the variable isn't free, closing over it changes nothing
  pub closed_apart : (at : ℕ) (t : Tm) → occurs name ty t ≡ false → closed at name ty t ≡ t
  closed_apart at (bound n) e = refl
  closed_apart at (free a s) e = rw e refl
  closed_apart at (constant a s) e = refl
  closed_apart at (app f x) e =
      let p = neither (occurs name ty f) (occurs name ty x) e in
      rw (closed_apart at f p.0, closed_apart at x p.1) refl
  closed_apart at (abs s x) e = ap (abs s) (closed_apart (at + 1) x e)

  number_back : (b : Bool) (at n : ℕ) → (n == at) ≡ b → closed at name ty (cond b (free name ty) (bound n)) ≡ bound n
  number_back true at n e = rw (itself, (Decides-eqb n at).0 e) refl
  number_back false at n e = refl

  -- what was opened with a variable that isn't free closes to what it was
  pub closed_opened : (at : ℕ) (t : Tm) → occurs name ty t ≡ false → closed at name ty (opened at (free name ty) t) ≡ t
  closed_opened at (bound n) e = number_back (n == at) at n refl
  closed_opened at (free a s) e = rw e refl
  closed_opened at (constant a s) e = refl
  closed_opened at (app f x) e =
      let p = neither (occurs name ty f) (occurs name ty x) e in
      rw (closed_opened at f p.0, closed_opened at x p.1) refl
  closed_opened at (abs s x) e = ap (abs s) (closed_opened (at + 1) x e)

  variable_gone : (b : Bool) (at : ℕ) (a : List ℕ) (s : Typ) → (bytes_eq a name && type_eq s ty) ≡ b → occurs name ty (cond b (bound at) (free a s)) ≡ false
  variable_gone true at a s e = refl
  variable_gone false at a s e = e

  -- a variable isn't free in what is closed over it
  pub occurs_closed : (at : ℕ) (t : Tm) → occurs name ty (closed at name ty t) ≡ false
  occurs_closed at (bound n) = refl
  occurs_closed at (free a s) = variable_gone (bytes_eq a name && type_eq s ty) at a s refl
  occurs_closed at (constant a s) = refl
  occurs_closed at (app f x) = rw (occurs_closed at f, occurs_closed at x) refl
  occurs_closed at (abs s x) = occurs_closed (at + 1) x

  variable_back : (b : Bool) (at : ℕ) (a : List ℕ) (s : Typ) → (bytes_eq a name && type_eq s ty) ≡ b → opened at (free name ty) (cond b (bound at) (free a s)) ≡ free a s
  variable_back true at a s e =
      let d = (Decides-and (bytes_eq a name) (type_eq s ty) (bytes_eq-Decides a name) (type_eq-decides s ty)).0 e in
      rw ((Decides-eqb at at).1 refl, d.0, d.1) refl
  variable_back false at a s e = refl

  -- what was closed opens to what it was
  pub opened_closed : (env : List Typ) (t : Tm) (s : Typ) (at : ℕ) → type_under env t ≡ Some s → length env ≤ at → opened at (free name ty) (closed at name ty t) ≡ t
  opened_closed env (bound n) s at e h = opened_whole env (bound n) s at (free name ty) e h
  opened_closed env (free a u) s at e h = variable_back (bytes_eq a name && type_eq u ty) at a u refl
  opened_closed env (constant a u) s at e h = refl
  opened_closed env (app f x) s at e h =
      let p = app_parts env f x s e in
      rw (opened_closed env f (function_type p.0 s) at p.1 h, opened_closed env x p.0 at p.2 h) refl
  opened_closed env (abs u x) s at e h =
      let p = abs_parts env u x s e in
      let k : length (u ∷ env) ≤ at + 1 = omega arith in
      ap (abs u) (opened_closed (u ∷ env) x p.0 (at + 1) p.1 k)

  number_size : (b : Bool) (n : ℕ) → size_of (cond b (free name ty) (bound n)) ≡ 1
  number_size true n = refl
  number_size false n = refl

  -- opening by a variable keeps the size
  pub size-opened : (at : ℕ) (t : Tm) → size_of (opened at (free name ty) t) ≡ size_of t
  size-opened at (bound n) = number_size (n == at) n
  size-opened at (free a s) = refl
  size-opened at (constant a s) = refl
  size-opened at (app f x) = rw (size-opened at f, size-opened at x) refl
  size-opened at (abs s x) = ap (λ n. n + 1) (size-opened (at + 1) x)
