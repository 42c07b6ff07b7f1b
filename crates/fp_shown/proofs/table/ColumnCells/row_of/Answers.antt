use Rattle.std.proofs.Common.{arith}
use Rattle.std.proofs.lemmas.Grind.{common_steps}
use Rattle.fp_shown.specs.Shown.{row_of}
use Rattle.fp_shown.proofs.Cells.{row_inside}
use Rattle.fp_shown.proofs.table.ColumnCells.row_of.Goals as goal

pub returns-clause-value : goal.returns-clause-value
unfolding row_of
returns-clause-value c = grind (arith, common_steps)

pub returns-clause-inside : goal.returns-clause-inside
unfolding row_of
returns-clause-inside c = grind (arith, common_steps, row_inside c.args.self.now.grid c.args.cell c.args.self.now.right c.requires, c.args.self.now.row_count)
