use Rattle.fp_order.specs.Grid.{cell_on}
use Rattle.fp_order.proofs.Gained.{gains_none, gains_map}
use Rattle.fp_order.proofs.numbering.add_column.Goals as goal

pub loop-row-init : goal.loop-row-init
loop-row-init c = gains_none c.args.g.now _ c.requires.numbered

pub loop-row-preserved : goal.loop-row-preserved
loop-row-preserved c = gains_map c.args.g.now c.args.numbered.now c.loop-row.numbered _ (cell_on c.args.g.now c.args.column.now) c.loop-row.row c.loop-row.invariant (rw c.cell_on.ensures.value at c.in_ok-add.ensures)
