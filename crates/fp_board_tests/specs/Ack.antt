-- The grid of Ackermann's function.
use Rattle.std.specs.Prelude.{[], ◌∷◌}
use Rattle.fp_order.specs.declared.grid.Grid.{Grid}

abbrev pub ack_grid : Grid
ack_grid = record { functions = 2 ∷ []; rows = (0, 0) ∷ (0, 0) ∷ (0, 0) ∷ [] }
