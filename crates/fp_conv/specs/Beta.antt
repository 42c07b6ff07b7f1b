-- Beta reduction of terms without loose numbers, and terms with nothing left to reduce.
use Rattle.std.specs.Prelude.{◌≡◌, ℕ, Bool, true, false, not, ◌&&◌, List}
use Rattle.fp_term.specs.Types.{Typ}
use Rattle.fp_term.specs.Terms.{Tm, free, app, abs, opened, closed}
use Rattle.fp_conclude.specs.Hypotheses.{occurs}

-- one redex of the term is contracted: the term itself, one in its function, in its argument, or in its body, which is opened by a variable that isn't free there
pub data Contracts : Tm → Tm → Type 0 where
  here : (s : Typ) (body arg : Tm) → Contracts (app (abs s body) arg) (opened 0 arg body)
  in_function : {f g : Tm} (x : Tm) → Contracts f g → Contracts (app f x) (app g x)
  in_argument : {x y : Tm} (f : Tm) → Contracts x y → Contracts (app f x) (app f y)
  in_body : {body u : Tm} (s : Typ) (name : List ℕ) → occurs name s body ≡ false → Contracts (opened 0 (free name s) body) u → Contracts (abs s body) (abs s (closed 0 name s u))

-- redexes are contracted one after the other, any number of them
pub data Reduces : Tm → Tm → Type 0 where
  none : {t : Tm} → Reduces t t
  first : {t u v : Tm} → Contracts t u → Reduces u v → Reduces t v

abbrev pub is_abstraction : Tm → Bool
is_abstraction (abs s x) = true
is_abstraction t = false

-- is it an abstraction applied to an argument?
abbrev pub is_redex : Tm → Bool
is_redex (app f x) = is_abstraction f
is_redex t = false

-- no subterm is an abstraction applied to an argument
abbrev pub is_normal : Tm → Bool
is_normal (app f x) = not (is_abstraction f) && is_normal f && is_normal x
is_normal (abs s x) = is_normal x
is_normal t = true
