-- What a term and its beta-normal form have in common: the type, and that no variable is free.
use Rattle.std.proofs.Common.{◌≡◌, ℕ, ◌+◌, Bool, true, false, cond, ◌&&◌, ◌==◌, List, [], refl}
use Rattle.std.specs.Prelude.{Some}
use Rattle.std.specs.Str.{bytes_eq}
use Rattle.std.proofs.lemmas.Bool.Decides.{Decides-and}
use Rattle.std.proofs.lemmas.Slice.Eq.{bytes_eq-Decides}
use Rattle.fp_term.specs.Types.{Typ, type_eq}
use Rattle.fp_term.specs.Terms.{Tm, bound, free, constant, app, abs, is_open, opened, closed}
use Rattle.fp_term.specs.Typing.{type_under, function_type}
use Rattle.fp_term.specs.Variables.{occurs}
use Rattle.fp_term.proofs.Equal.{type_eq-decides}
use Rattle.fp_term.proofs.Typed.{app_parts, abs_parts, app_typed, abs_typed, same_function, opened_typed, closed_typed}
use Rattle.fp_term.proofs.Unchanged.{no_occurrence}
use Rattle.fp_conv.specs.Passes.{contracted, Passes, settled, at_redex, in_parts, in_body, NormalBy, done, again}
use Rattle.fp_conv.proofs.Opening.{neither, itself}

-- the type
redex_typed : (s : Typ) (body arg : Tm) (to : Typ) → type_under [] (app (abs s body) arg) ≡ Some to → type_under [] (opened 0 arg body) ≡ Some to
redex_typed s body arg to e =
    let p = app_parts [] (abs s body) arg to e in
    let q = abs_parts [] s body (function_type p.0 to) p.1 in
    let same = same_function s q.0 p.0 to q.2 in
    opened_typed arg s (rw same.0 p.2) [] 0 body to refl (rw (← same.1) q.1)

contracted_typed : (t : Tm) (s : Typ) → type_under [] t ≡ Some s → type_under [] (contracted t) ≡ Some s
contracted_typed (bound n) s e = e
contracted_typed (free a u) s e = e
contracted_typed (constant a u) s e = e
contracted_typed (app (bound n) x) s e = e
contracted_typed (app (free a u) x) s e = e
contracted_typed (app (constant a u) x) s e = e
contracted_typed (app (app f y) x) s e = e
contracted_typed (app (abs u body) x) s e = redex_typed u body x s e
contracted_typed (abs u x) s e = e

pass_typed : {depth : ℕ} {t u : Tm} (s : Typ) → Passes depth t u → type_under [] t ≡ Some s → type_under [] u ≡ Some s
pass_typed s (settled n) e = e
pass_typed s (at_redex v body arg) e = redex_typed v body arg s e
pass_typed s (in_parts {f = f} {g = g} {x = x} {y = y} n r d k) e =
    let p = app_parts [] f x s e in
    contracted_typed (app g y) s (app_typed [] g y p.0 s (pass_typed (function_type p.0 s) d p.1) (pass_typed p.0 k p.2))
pass_typed s (in_body {body = body} {u = u} v name n first d) e =
    let p = abs_parts [] v body s e in
    let inner = opened_typed (free name v) v refl [] 0 body p.0 refl p.1 in
    rw (← p.2) (abs_typed [] v (closed 0 name v u) p.0 (closed_typed name v [] 0 u p.0 refl (pass_typed p.0 d inner)))

-- the normal form has the type of the term
pub normal_typed : {t u : Tm} (s : Typ) → NormalBy t u → type_under [] t ≡ Some s → type_under [] u ≡ Some s
normal_typed s (done n) e = e
normal_typed s (again n d k) e = normal_typed s k (pass_typed s d e)

-- what doesn't occur, where a term is opened or closed
opened_apart : (a : List ℕ) (v : Typ) (by : Tm) → occurs a v by ≡ false → (at : ℕ) (t : Tm) → occurs a v t ≡ false → occurs a v (opened at by t) ≡ false
opened_apart a v by e at (bound n) f = number_apart (n == at)
  where
    number_apart : (b : Bool) → occurs a v (cond b by (bound n)) ≡ false
    number_apart true = e
    number_apart false = refl
opened_apart a v by e at (free b s) f = f
opened_apart a v by e at (constant b s) f = refl
opened_apart a v by e at (app g x) f =
    let p = neither (occurs a v g) (occurs a v x) f in
    rw (opened_apart a v by e at g p.0, opened_apart a v by e at x p.1) refl
opened_apart a v by e at (abs s x) f = opened_apart a v by e (at + 1) x f

closed_apart : (a : List ℕ) (v : Typ) (name : List ℕ) (s : Typ) (at : ℕ) (t : Tm) → occurs a v t ≡ false → occurs a v (closed at name s t) ≡ false
closed_apart a v name s at (bound n) f = refl
closed_apart a v name s at (free b u) f = variable_apart (bytes_eq b name && type_eq u s)
  where
    variable_apart : (c : Bool) → occurs a v (cond c (bound at) (free b u)) ≡ false
    variable_apart true = refl
    variable_apart false = f
closed_apart a v name s at (constant b u) f = refl
closed_apart a v name s at (app g x) f =
    let p = neither (occurs a v g) (occurs a v x) f in
    rw (closed_apart a v name s at g p.0, closed_apart a v name s at x p.1) refl
closed_apart a v name s at (abs u x) f = closed_apart a v name s (at + 1) x f

-- the variable that is closed over is gone
variable_gone : (name : List ℕ) (s : Typ) (at : ℕ) (a : List ℕ) (u : Typ) (b : Bool) → (bytes_eq a name && type_eq u s) ≡ b → occurs name s (cond b (bound at) (free a u)) ≡ false
variable_gone name s at a u true is = refl
variable_gone name s at a u false is = is

closed_gone : (name : List ℕ) (s : Typ) (at : ℕ) (t : Tm) → occurs name s (closed at name s t) ≡ false
closed_gone name s at (bound n) = refl
closed_gone name s at (free a u) = variable_gone name s at a u (bytes_eq a name && type_eq u s) refl
closed_gone name s at (constant a u) = refl
closed_gone name s at (app f x) = rw (closed_gone name s at f, closed_gone name s at x) refl
closed_gone name s at (abs u x) = closed_gone name s (at + 1) x

contracted_apart : (a : List ℕ) (v : Typ) (t : Tm) → occurs a v t ≡ false → occurs a v (contracted t) ≡ false
contracted_apart a v (bound n) e = e
contracted_apart a v (free b u) e = e
contracted_apart a v (constant b u) e = e
contracted_apart a v (app (bound n) x) e = e
contracted_apart a v (app (free b u) x) e = e
contracted_apart a v (app (constant b u) x) e = e
contracted_apart a v (app (app f y) x) e = e
contracted_apart a v (app (abs u body) x) e = let p = neither (occurs a v body) (occurs a v x) e in opened_apart a v x p.1 0 body p.0
contracted_apart a v (abs u x) e = e

either_apart : (a : List ℕ) (v : Typ) (name : List ℕ) (s : Typ) (u : Tm) (b : Bool) → (bytes_eq name a && type_eq s v) ≡ b → (b ≡ false → occurs a v u ≡ false) → occurs a v (closed 0 name s u) ≡ false
either_apart a v name s u true is k =
    let p = (Decides-and (bytes_eq name a) (type_eq s v) (bytes_eq-Decides name a) (type_eq-decides s v)).0 is in
    rw (← p.0, ← p.1) (closed_gone name s 0 u)
either_apart a v name s u false is k = closed_apart a v name s 0 u (k refl)

pass_apart : {depth : ℕ} {t u : Tm} (a : List ℕ) (v : Typ) → Passes depth t u → occurs a v t ≡ false → occurs a v u ≡ false
pass_apart a v (settled n) e = e
pass_apart a v (at_redex s body arg) e = let p = neither (occurs a v body) (occurs a v arg) e in opened_apart a v arg p.1 0 body p.0
pass_apart a v (in_parts {f = f} {g = g} {x = x} {y = y} n r d k) e =
    let p = neither (occurs a v f) (occurs a v x) e in
    contracted_apart a v (app g y) (rw (pass_apart a v d p.0, pass_apart a v k p.1) refl)
pass_apart a v (in_body {body = body} {u = u} s name n first d) e =
    either_apart a v name s u (bytes_eq name a && type_eq s v) refl (λ other. pass_apart a v d (opened_apart a v (free name s) other 0 body e))

normal_apart : {t u : Tm} (a : List ℕ) (v : Typ) → NormalBy t u → occurs a v t ≡ false → occurs a v u ≡ false
normal_apart a v (done n) e = e
normal_apart a v (again n d k) e = normal_apart a v k (pass_apart a v d e)

-- a term is closed where no variable occurs in it
all_apart : (t : Tm) → ((a : List ℕ) (v : Typ) → occurs a v t ≡ false) → is_open t ≡ false
all_apart (bound n) k = refl
all_apart (free a s) k = let e = k a s in let f = itself a s in cc
all_apart (constant a s) k = refl
all_apart (app f x) k =
    let one = all_apart f (λ a v. (neither (occurs a v f) (occurs a v x) (k a v)).0) in
    let two = all_apart x (λ a v. (neither (occurs a v f) (occurs a v x) (k a v)).1) in
    rw (one, two) refl
all_apart (abs s x) k = all_apart x k

-- the normal form of a closed term is closed
pub normal_closed : {t u : Tm} → NormalBy t u → is_open t ≡ false → is_open u ≡ false
normal_closed {t} {u} d e = all_apart u (λ a v. normal_apart a v d (no_occurrence a v t e))
