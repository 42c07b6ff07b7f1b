-- The nodes of a type.
use Rattle.std.specs.Prelude.{◌≡◌, ◌<◌, ◌+◌, ℕ, List, Option, Some, None}
use Rattle.fp_term.specs.Types.{Typ, Typs, variable, applied, none, more}
use Rattle.fp_unify.specs.Cells.{cell, Fits}
use Rattle.fp_unify.specs.declared.table.Shape.{Shape}
use Rattle.fp_unify.specs.declared.table.Shape.TheVariants.{Open}

abbrev mutual
  pub type_nodes : Typ → ℕ
  type_nodes (variable a) = 1
  type_nodes (applied a ts) = types_nodes ts + 1

  pub types_nodes : Typs → ℕ
  types_nodes none = 0
  types_nodes (more t ts) = type_nodes t + types_nodes ts

-- types that agree with the table, with one node where nothing is known
pub record Single (w : ℕ → Typ) (cells : List Shape) : Type 0 where
  pub fits : Fits w cells
  pub single : (i : ℕ) → cell cells i ≡ Open → type_nodes (w i) ≡ 1

-- what is left of the room after so many nodes, or that they are more
abbrev pub Leaves : ℕ → ℕ → Option ℕ → Type 0
Leaves nodes room None = room < nodes
Leaves nodes room (Some left) = left + nodes ≡ room
