-- When a term has a type.
use Rattle.std.specs.Prelude.{ℕ, ◌&&◌, if◌then◌else◌, List, [], ◌∷◌, Option, Some, None}
use Rattle.std.specs.List.{slice_get}
use Rattle.std.specs.Str.{bytes_eq}
use Rattle.fp_term.specs.Names.{function}
use Rattle.fp_term.specs.Types.{Typ, applied, none, more, type_eq}
use Rattle.fp_term.specs.Terms.{Tm, bound, free, constant, app, abs}

abbrev pub function_type : Typ → Typ → Typ
function_type from to = applied function (more from (more to none))

-- the type of functions of these arguments
abbrev pub function_type_over : List Typ → Typ → Typ
function_type_over [] to = to
function_type_over (s ∷ from) to = function_type s (function_type_over from to)

-- the type of an application, from the types of its parts
abbrev pub type_of_app : Typ → Typ → Option Typ
type_of_app (applied name (more from (more to none))) arg = if bytes_eq name function && type_eq from arg then Some to else None
type_of_app _ arg = None

abbrev pub bind : Option Typ → (Typ → Option Typ) → Option Typ
bind None next = None
bind (Some s) next = next s

-- the type of the term under the types of the abstractions around it, innermost first
abbrev pub type_under : List Typ → Tm → Option Typ
type_under env (bound n) = slice_get env n
type_under env (free name s) = Some s
type_under env (constant name s) = Some s
type_under env (app f x) = bind (type_under env f) (λ s. bind (type_under env x) (type_of_app s))
type_under env (abs s x) = bind (type_under (s ∷ env) x) (λ t. Some (function_type s t))

abbrev pub below : ℕ → Option (List ℕ) → Option (List ℕ) → Option (List ℕ)
below step None later = later
below step (Some place) later = Some (step ∷ place)

-- the place itself, where there is no type
abbrev pub here_unless : Option Typ → Option (List ℕ)
here_unless None = Some []
here_unless (Some s) = None

-- the place of the first subterm in post-order that has no type
abbrev pub ill_typed : List Typ → Tm → Option (List ℕ)
ill_typed env (bound n) = here_unless (slice_get env n)
ill_typed env (free name s) = None
ill_typed env (constant name s) = None
ill_typed env (app f x) = below 0 (ill_typed env f) (below 1 (ill_typed env x) (here_unless (type_under env (app f x))))
ill_typed env (abs s x) = below 2 (ill_typed (s ∷ env) x) None
