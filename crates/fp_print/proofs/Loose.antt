-- Terms without loose numbers have forms without them, and a term with a type has none but those of its surroundings.
use Rattle.std.proofs.Common.{◌≡◌, ℕ, ◌+◌, List, ◌∷◌, length, Bool, true, false, cond, arith}
use Rattle.std.specs.Prelude.{Option, Some, None, codes}
use Rattle.std.specs.Str.{bytes_eq}
use Rattle.std.proofs.lemmas.Option.{slice_get_within}
use Rattle.fp_term.specs.Types.{Typ}
use Rattle.fp_term.specs.Terms.{Tm, bound, free, constant, app, abs}
use Rattle.fp_term.specs.Typing.{type_under, function_type}
use Rattle.fp_term.proofs.Typed.{app_parts, abs_parts}
use Rattle.fp_print.specs.Shapes.{Infix, Binder, lambda, Shape, named, bound_by, negated, chosen, paired, applied_to, shape, with_one, with_body, with_two, with_three, operator, binder_of}
use Rattle.fp_print.specs.Numbers.{HasOnly, ShapeHasOnly}

either : (n : ℕ) (b : Bool) (s t : Shape) → ShapeHasOnly n s → ShapeHasOnly n t → ShapeHasOnly n (cond b s t)
either n true s t h k = h
either n false s t h k = k

one_has_only : (n : ℕ) (c : List ℕ) (x : Shape) → ShapeHasOnly n x → ShapeHasOnly n (with_one c x)
one_has_only n c x h = either n (bytes_eq c (codes "not")) (negated x) (applied_to (named c) x) h (tt, h)

body_has_only : (n : ℕ) (c : List ℕ) (o : Option Binder) (x : Shape) → ShapeHasOnly (n + 1) x → ShapeHasOnly n (with_body c o x)
body_has_only n c None x h = one_has_only n c (bound_by lambda x) h
body_has_only n c (Some binder) x h = h

two_has_only : (n : ℕ) (c : List ℕ) (o : Option Infix) (f x y : Shape) → ShapeHasOnly n f → ShapeHasOnly n x → ShapeHasOnly n y → ShapeHasOnly n (with_two c o f x y)
two_has_only n c (Some symbol) f x y k h i = (h, i)
two_has_only n c None f x y k h i = either n (bytes_eq c (codes "Pair")) (paired x y) (applied_to f y) (h, i) (k, i)

three_has_only : (n : ℕ) (c : List ℕ) (f x y z : Shape) → ShapeHasOnly n f → ShapeHasOnly n x → ShapeHasOnly n y → ShapeHasOnly n z → ShapeHasOnly n (with_three c f x y z)
three_has_only n c f x y z k h i j = either n (bytes_eq c (codes "If")) (chosen x y z) (applied_to f z) (h, (i, j)) (k, j)

pub shape_has_only : (n : ℕ) (t : Tm) → HasOnly n t → ShapeHasOnly n (shape t)
shape_has_only n (bound k) h = h
shape_has_only n (free a s) h = tt
shape_has_only n (constant a s) h = tt
shape_has_only n (abs s x) h = shape_has_only (n + 1) x h
shape_has_only n (app (constant c s) (abs r x)) h = body_has_only n c (binder_of c) (shape x) (shape_has_only (n + 1) x h.1)
shape_has_only n (app (constant c s) x) h = one_has_only n c (shape x) (shape_has_only n x h.1)
shape_has_only n (app (app (constant c s) x) y) h =
    two_has_only n c (operator c) (shape (app (constant c s) x)) (shape x) (shape y) (shape_has_only n (app (constant c s) x) h.0) (shape_has_only n x h.0.1) (shape_has_only n y h.1)
shape_has_only n (app (app (app (constant c s) x) y) z) h =
    three_has_only n c (shape (app (app (constant c s) x) y)) (shape x) (shape y) (shape z)
    (shape_has_only n (app (app (constant c s) x) y) h.0) (shape_has_only n x h.0.0.1) (shape_has_only n y h.0.1) (shape_has_only n z h.1)
shape_has_only n (app f x) h = (shape_has_only n f h.0, shape_has_only n x h.1)

-- a term with a type has only the numbers of its surroundings
pub typed_has_only : (env : List Typ) (t : Tm) (s : Typ) → type_under env t ≡ Some s → HasOnly (length env) t
typed_has_only env (bound k) s e = slice_get_within env k s e
typed_has_only env (free a u) s e = tt
typed_has_only env (constant a u) s e = tt
typed_has_only env (app f x) s e =
    let p = app_parts env f x s e in
    (typed_has_only env f (function_type p.0 s) p.1, typed_has_only env x p.0 p.2)
typed_has_only env (abs u x) s e =
    let p = abs_parts env u x s e in
    let more : length (u ∷ env) ≡ length env + 1 = omega arith in
    rw more at (typed_has_only (u ∷ env) x p.0 p.1)
