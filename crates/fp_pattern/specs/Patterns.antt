-- Patterns: variables, and declared constructors applied to as many patterns as their types ask for.
use Rattle.std.specs.Prelude.{ℕ, Bool, true, false, not, ◌||◌, if◌then◌else◌, List, [], ◌∷◌, Option, Some, None, is_some}
use Rattle.std.specs.Option.{option_map}
use Rattle.std.specs.Str.{bytes_eq}
use Rattle.fp_term.specs.Names.{function}
use Rattle.fp_term.specs.Types.{Typ, Typs, variable, applied, none, more, found_type, matched, retyped}
use Rattle.fp_term.specs.Terms.{Tm, bound, free, constant, app, abs}
use Rattle.fp_term.specs.Variables.{is_among}
use Rattle.fp_term.specs.declared.signature.Signature.{Signature}
use Rattle.fp_group.specs.declared.constructors.ConType.{ConType}
use Rattle.fp_group.specs.declared.constructors.ConTable.{ConTable}

-- the constructors of the first entry for the type's name
abbrev pub listed : List ConType → List ℕ → List (List ℕ)
listed [] name = []
listed (entry ∷ rest) name = if bytes_eq entry.name name then entry.cons else listed rest name

-- the declared constructors of the type, in their order
abbrev pub constructors : ConTable → Typ → List (List ℕ)
constructors table (variable name) = []
constructors table (applied name args) = listed table.types name

-- is the name a constructor of some type?
abbrev pub is_listed : List ConType → List ℕ → Bool
is_listed [] name = false
is_listed (entry ∷ rest) name = is_among entry.cons name || is_listed rest name

-- what a function takes and what it gives; nothing for another type
abbrev pub arrow : Typ → Option (Typ × Typ)
arrow (applied name (more from (more to none))) = if bytes_eq name function then Some (from, to) else None
arrow _ = None

-- what a function gives in the end, once it has all its arguments
abbrev mutual
  pub outcome : Typ → Typ
  outcome (variable name) = variable name
  outcome (applied name types) = if bytes_eq name function then outcome_of (applied name types) types else applied name types

  pub outcome_of : Typ → Typs → Typ
  outcome_of whole none = whole
  outcome_of whole (more from rest) = outcome_last whole rest

  pub outcome_last : Typ → Typs → Typ
  outcome_last whole none = whole
  outcome_last whole (more to none) = outcome to
  outcome_last whole (more to (more other rest)) = whole

-- the type at which the constructor gives values of the type `s`
abbrev pub type_for : Option Typ → Typ → Option Typ
type_for None s = None
type_for (Some declared) s = option_map (λ pairs. retyped pairs declared) (matched [] (outcome declared) s)

abbrev pub con_type : Signature → Typ → List ℕ → Option Typ
con_type signature s con = type_for (found_type con signature.consts) s

abbrev pub given : Option (Typ × Typ) → Option Typ
given None = None
given (Some pair) = Some pair.1

-- the type of what a constructor gives for one more pattern
abbrev pub after_pattern : Option Typ → Bool → Option Typ
after_pattern None whole = None
after_pattern (Some s) whole = if whole then given (arrow s) else None

abbrev pub is_variable : Tm → Bool
is_variable (free x s) = true
is_variable _ = false

abbrev pub has_all : Option Typ → Bool
has_all None = false
has_all (Some s) = not (is_some (arrow s))

-- is it a variable, or has the constructor at its head all its arguments?
abbrev pub is_whole : Tm → Option Typ → Bool
is_whole p so_far = if is_variable p then true else has_all so_far

-- the type of a declared constructor that is applied to patterns, some or all that it asks for; nothing for another term
abbrev pub spine : ConTable → Tm → Option Typ
spine table (bound n) = None
spine table (free x s) = None
spine table (constant con s) = if is_listed table.types con then Some s else None
spine table (app f x) = after_pattern (spine table f) (is_whole x (spine table x))
spine table (abs s x) = None

abbrev pub is_pattern : ConTable → Tm → Bool
is_pattern table p = is_whole p (spine table p)
