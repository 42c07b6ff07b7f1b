use Rattle.std.proofs.Common.{arith, ◌<◌, length}
use Rattle.std.proofs.lemmas.Grind.{common_steps}
use Rattle.fp_order.specs.Grid.{cells_of}
use Rattle.fp_shown.specs.Shown.{number_on}
use Rattle.fp_shown.proofs.Inside.{number_on_inside}
use Rattle.fp_shown.proofs.table.ColumnCells.number.Goals as goal

pub returns-clause-value : goal.returns-clause-value
returns-clause-value c = grind (arith, common_steps, c.args.self.now.told c.args.column c.args.row c.requires.column c.requires.row)

pub returns-clause-cell : goal.returns-clause-cell
returns-clause-cell c =
    let s = c.args.self.now in
    let inside : number_on s.grid c.args.column c.args.row < length (cells_of s.grid) =
    number_on_inside s.grid c.args.column c.args.row s.right (omega (arith, c.requires.column, s.count)) (omega (arith, c.requires.row, s.row_count)) in
    grind (arith, common_steps, s.told c.args.column c.args.row c.requires.column c.requires.row, inside)
