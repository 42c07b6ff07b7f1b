-- Opening a body and closing a term over a variable undo each other.
use Rattle.std.proofs.Common.{◌≡◌, ◌≤◌, ℕ, ◌+◌, ◌==◌, Bool, true, false, cond, ◌&&◌, ◌||◌, List, refl, sym, ap, arith}
use Rattle.std.specs.Str.{bytes_eq}
use Rattle.std.proofs.lemmas.Bool.Decides.{Decides-and, Decides-eqb, nat_tests}
use Rattle.std.proofs.lemmas.Slice.Eq.{bytes_eq-Decides}
use Rattle.fp_term.specs.Types.{Typ, type_eq}
use Rattle.fp_term.specs.Terms.{Tm, bound, free, constant, app, abs, loose_of, opened, closed}
use Rattle.fp_term.specs.Variables.{occurs}
use Rattle.fp_term.proofs.Equal.{type_eq-decides}

variable_back : (at : ℕ) (name : List ℕ) (ty : Typ) (a : List ℕ) (s : Typ) (b : Bool) → (bytes_eq a name && type_eq s ty) ≡ b →
    opened at (free name ty) (cond b (bound at) (free a s)) ≡ free a s
variable_back at name ty a s true e =
    let d = (Decides-and (bytes_eq a name) (type_eq s ty) (bytes_eq-Decides a name) (type_eq-decides s ty)).0 e in
    let here : (at == at) ≡ true = grind (arith, nat_tests) in
    rw (here, d.0, d.1) refl
variable_back at name ty a s false e = refl

-- a term whose numbers are all below the place, closed over a variable there and opened by it, is itself again
pub opened_closed : (at : ℕ) (name : List ℕ) (ty : Typ) (t : Tm) → loose_of t ≤ at → opened at (free name ty) (closed at name ty t) ≡ t
opened_closed at name ty (bound n) h = let differs : (n == at) ≡ false = grind (arith, nat_tests) in rw differs refl
opened_closed at name ty (free a s) h = variable_back at name ty a s (bytes_eq a name && type_eq s ty) refl
opened_closed at name ty (constant a s) h = refl
opened_closed at name ty (app f x) h = rw (opened_closed at name ty f (omega arith), opened_closed at name ty x (omega arith)) refl
opened_closed at name ty (abs s x) h = ap (abs s) (opened_closed (at + 1) name ty x (omega arith))

neither : (a b : Bool) → (a || b) ≡ false → (a ≡ false) × (b ≡ false)
neither true b e = cc
neither false b e = (refl, e)

number_back : (at : ℕ) (name : List ℕ) (ty : Typ) (n : ℕ) (b : Bool) → (n == at) ≡ b → closed at name ty (cond b (free name ty) (bound n)) ≡ bound n
number_back at name ty n true e =
    let same : (bytes_eq name name && type_eq ty ty) ≡ true =
    (Decides-and (bytes_eq name name) (type_eq ty ty) (bytes_eq-Decides name name) (type_eq-decides ty ty)).1 (refl, refl) in
    rw same (ap bound (sym ((Decides-eqb n at).0 e)))
number_back at name ty n false e = refl

-- a body opened by a variable that isn't free in it, and closed over it, is itself again, whatever other numbers it has
pub closed_opened : (at : ℕ) (name : List ℕ) (ty : Typ) (t : Tm) → occurs name ty t ≡ false → closed at name ty (opened at (free name ty) t) ≡ t
closed_opened at name ty (bound n) e = number_back at name ty n (n == at) refl
closed_opened at name ty (free a s) e = rw e refl
closed_opened at name ty (constant a s) e = refl
closed_opened at name ty (app f x) e =
    let p = neither (occurs name ty f) (occurs name ty x) e in
    rw (closed_opened at name ty f p.0, closed_opened at name ty x p.1) refl
closed_opened at name ty (abs s x) e = ap (abs s) (closed_opened (at + 1) name ty x e)

most_cond : (b : Bool) (x y : Tm) (n : ℕ) → loose_of x ≤ n → (b ≡ false → loose_of y ≤ n) → loose_of (cond b x y) ≤ n
most_cond true x y n h k = h
most_cond false x y n h k = k refl

-- a body in which no number goes beyond the abstraction around it, opened there by a closed term, has none that goes beyond what is left
pub opened_loose : (at : ℕ) (by t : Tm) → loose_of by ≤ 0 → loose_of t ≤ at + 1 → loose_of (opened at by t) ≤ at
opened_loose at by (bound n) c h =
    most_cond (n == at) by (bound n) at (omega arith) (λ (e : (n == at) ≡ false). let differs : n ≡ at → ⊥ = λ same. grind (arith, nat_tests) in omega arith)
opened_loose at by (free a s) c h = omega arith
opened_loose at by (constant a s) c h = omega arith
opened_loose at by (app f x) c h =
    let p = opened_loose at by f c (omega arith) in
    let q = opened_loose at by x c (omega arith) in
    omega arith
opened_loose at by (abs s x) c h = let p = opened_loose (at + 1) by x c (omega arith) in omega arith
