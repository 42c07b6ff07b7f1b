-- Reduction keeps types, and what reduces in a part reduces in the whole.
use Rattle.std.proofs.Common.{◌≡◌, ◌∙◌, ℕ, List, [], refl, sym, ap, arith}
use Rattle.std.specs.Prelude.{Some}
use Rattle.fp_term.specs.Types.{Typ}
use Rattle.fp_term.specs.Terms.{Tm, free, app, abs, closed}
use Rattle.fp_term.specs.Typing.{type_under, function_type}
use Rattle.fp_term.proofs.Typed.{app_parts, abs_parts, same_function, app_typed, abs_typed, opened_typed, closed_typed}
use Rattle.fp_conv.specs.Beta.{Contracts, here, in_function, in_argument, in_body, Reduces, none, first}
use Rattle.fp_conv.proofs.Opening.{occurs_closed, opened_closed}

pub contracts_typed : {t u : Tm} (s : Typ) → Contracts t u → type_under [] t ≡ Some s → type_under [] u ≡ Some s
contracts_typed s (here v body arg) e =
    let p = app_parts [] (abs v body) arg s e in
    let q = abs_parts [] v body (function_type p.0 s) p.1 in
    let same = same_function v q.0 p.0 s q.2 in
    opened_typed arg v (p.2 ∙ ap Some (sym same.0)) [] 0 body s refl (q.1 ∙ ap Some same.1)
contracts_typed s (in_function {f = f} {g = g} x c) e =
    let p = app_parts [] f x s e in
    app_typed [] g x p.0 s (contracts_typed (function_type p.0 s) c p.1) p.2
contracts_typed s (in_argument {x = x} {y = y} f c) e =
    let p = app_parts [] f x s e in
    app_typed [] f y p.0 s p.1 (contracts_typed p.0 c p.2)
contracts_typed s (in_body {body = body} {u = u} v name apart c) e =
    let p = abs_parts [] v body s e in
    let k = contracts_typed p.0 c (opened_typed (free name v) v refl [] 0 body p.0 refl p.1) in
    rw (← p.2) (abs_typed [] v (closed 0 name v u) p.0 (closed_typed name v [] 0 u p.0 refl k))

pub reduces_on : {t u v : Tm} → Reduces t u → Reduces u v → Reduces t v
reduces_on none e = e
reduces_on (first c d) e = first c (reduces_on d e)

pub reduces_function : {f g : Tm} (x : Tm) → Reduces f g → Reduces (app f x) (app g x)
reduces_function x none = none
reduces_function x (first c d) = first (in_function x c) (reduces_function x d)

pub reduces_argument : {x y : Tm} (f : Tm) → Reduces x y → Reduces (app f x) (app f y)
reduces_argument f none = none
reduces_argument f (first c d) = first (in_argument f c) (reduces_argument f d)

pub reduces_both : {f g x y : Tm} → Reduces f g → Reduces x y → Reduces (app f x) (app g y)
reduces_both {g = g} {x = x} d e = reduces_on (reduces_function x d) (reduces_argument g e)

-- what reduces, reduces when closed over a variable
module _ (name : List ℕ) (v : Typ) where
  contracts_under : {t u : Tm} (s : Typ) → type_under [] t ≡ Some s → Contracts t u → Contracts (abs v (closed 0 name v t)) (abs v (closed 0 name v u))
  contracts_under {t} {u} s e c =
      let back = opened_closed name v [] t s 0 e (omega arith) in
      in_body v name (occurs_closed name v 0 t) (rw back c)

  pub reduces_under : {t u : Tm} (s : Typ) → type_under [] t ≡ Some s → Reduces t u → Reduces (abs v (closed 0 name v t)) (abs v (closed 0 name v u))
  reduces_under s e none = none
  reduces_under s e (first c d) = first (contracts_under s e c) (reduces_under s (contracts_typed s c e) d)
