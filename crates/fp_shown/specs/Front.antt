-- What the forced columns tell of the rows.
use Rattle.std.specs.Prelude.{List, length, Option}
use Rattle.fp_order.specs.declared.entry.Entry.{Entry}
use Rattle.fp_order.specs.declared.grid.Grid.{Grid}
use Rattle.fp_order.specs.Grid.{columns_of}
use Rattle.fp_shown.specs.declared.search.Front.{Front}
use Rattle.fp_shown.specs.Fillings.{TellsShown}
use Rattle.fp_shown.specs.Shown.{number_on}

-- each position stands exactly at the rows that the known cells show
abbrev pub IsFront : Grid → List (Option Entry) → Front → Type 0
IsFront g known front = TellsShown (number_on g) (length (columns_of g.functions)) (length g.rows) known front.decided.items
