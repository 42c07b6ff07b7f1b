-- The parts of terms and types of a known form.
use Rattle.std.specs.Prelude.{◌≡◌}
use Rattle.fp_term.specs.Types.{Typ, applied, none, more}
use Rattle.fp_term.specs.Terms.{Tm, constant, app, abs}
use Rattle.fp_term.specs.Typing.{function_type}
use Rattle.fp_conclude.specs.Logic.{truth_type, equal}

abbrev pub function_in : Tm → Tm
function_in (app f x) = f
function_in t = t

abbrev pub argument_in : Tm → Tm
argument_in (app f x) = x
argument_in t = t

abbrev pub body_in : Tm → Tm
body_in (abs s x) = x
body_in t = t

abbrev pub binder_in : Tm → Typ
binder_in (abs s x) = s
binder_in _ = truth_type

abbrev pub type_in : Tm → Typ
type_in (constant name s) = s
type_in _ = truth_type

abbrev pub source : Typ → Typ
source (applied name (more from rest)) = from
source _ = truth_type

abbrev pub target : Typ → Typ
target (applied name (more from (more to none))) = to
target _ = truth_type

-- the type of an equation's sides, and the sides
abbrev pub side_type : Tm → Typ
side_type t = source (type_in (function_in (function_in t)))

abbrev pub left : Tm → Tm
left t = argument_in (function_in t)

abbrev pub right : Tm → Tm
right t = argument_in t

abbrev pub IsEquation : Tm → Type 0
IsEquation t = t ≡ equal (side_type t) (left t) (right t)

-- an equation of functions on that type
abbrev pub IsEquationOn : Typ → Tm → Type 0
IsEquationOn s t = t ≡ equal (function_type s (target (side_type t))) (left t) (right t)

-- an equation of which that is the left side
abbrev pub IsEquationFrom : Typ → Tm → Tm → Type 0
IsEquationFrom s l t = t ≡ equal s l (right t)

abbrev pub IsRedex : Tm → Type 0
IsRedex t = t ≡ app (abs (binder_in (function_in t)) (body_in (function_in t))) (argument_in t)

abbrev pub IsAbstraction : Tm → Type 0
IsAbstraction t = t ≡ abs (binder_in t) (body_in t)
