use Rattle.std.specs.List.{All}
use Rattle.fp_rewriting.specs.Stated.{IsStated}
use Rattle.fp_cell_grids.proofs.grid.rules_of.Given as goal

abbrev pub invariant-loop-theorem : goal.invariant-loop-theorem
invariant-loop-theorem l = All IsStated l.rules.items
