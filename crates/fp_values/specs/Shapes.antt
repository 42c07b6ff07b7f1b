-- The declared constructors of a type.
use Rattle.std.specs.Prelude.{ℕ, List, []}
use Rattle.fp_term.specs.Types.{Typ, variable, applied}
use Rattle.fp_group.specs.declared.constructors.ConType.{ConType}
use Rattle.fp_pattern.specs.Patterns.{listed}

-- in their order
abbrev pub names_of : List ConType → Typ → List (List ℕ)
names_of types (variable name) = []
names_of types (applied name args) = listed types name
