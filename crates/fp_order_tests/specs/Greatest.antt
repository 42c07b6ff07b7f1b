-- A grid whose rows only the greatest value decides.
use Rattle.std.specs.Prelude.{[], ◌∷◌}
use Rattle.fp_order.specs.declared.grid.Grid.{Grid}

abbrev pub greatest_grid : Grid
greatest_grid = record { functions = 1 ∷ 2 ∷ []; rows = (0, 1) ∷ (1, 0) ∷ (1, 0) ∷ [] }
