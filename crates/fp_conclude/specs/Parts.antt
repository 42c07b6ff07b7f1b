-- The parts of equations, redexes and types of functions.
use Rattle.std.specs.Prelude.{◌&&◌, if◌then◌else◌, Option, Some, None}
use Rattle.std.specs.Option.{option_and_then}
use Rattle.std.specs.Str.{bytes_eq}
use Rattle.fp_term.specs.Names.{function, equality}
use Rattle.fp_term.specs.Types.{Typ, applied, none, more, type_eq}
use Rattle.fp_term.specs.Terms.{Tm, constant, app, abs}
use Rattle.fp_conclude.specs.Logic.{truth_type}

-- from which type a type of functions leads, and to which
abbrev pub function_parts : Typ → Option (Typ × Typ)
function_parts (applied name (more from (more to none))) = if bytes_eq name function then Some (from, to) else None
function_parts _ = None

abbrev pub if_alike : Typ → Option (Typ × Typ) → Option Typ
if_alike s None = None
if_alike s (Some p) = if type_eq s p.0 && type_eq p.1 truth_type then Some s else None

-- the type of the sides of an equation, from the type of its equality
abbrev pub compared : Typ → Option Typ
compared ty = option_and_then (λ p. if_alike p.0 (function_parts p.1)) (function_parts ty)

abbrev pub compared_by : Tm → Option Typ
compared_by (constant name ty) = if bytes_eq name equality then compared ty else None
compared_by _ = None

abbrev pub sides_at : Tm → Tm → Option Typ → Option (Typ × Tm × Tm)
sides_at left right None = None
sides_at left right (Some s) = Some (s, left, right)

-- the type of an equation's sides, and the sides
abbrev pub equation : Tm → Option (Typ × Tm × Tm)
equation (app (app e left) right) = sides_at left right (compared_by e)
equation _ = None

-- the body and the argument of a redex
abbrev pub redex : Tm → Option (Tm × Tm)
redex (app (abs ty body) arg) = Some (body, arg)
redex _ = None
