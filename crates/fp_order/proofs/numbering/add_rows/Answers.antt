use Rattle.fp_order.specs.Grid.{row_cells}
use Rattle.fp_order.proofs.Gained.{gains_none, gains_flat}
use Rattle.fp_order.proofs.numbering.add_rows.Goals as goal

pub loop-row-init : goal.loop-row-init
loop-row-init c = gains_none c.args.g.now _ c.requires.numbered

pub loop-row-preserved : goal.loop-row-preserved
loop-row-preserved c = gains_flat c.args.g.now c.args.numbered.now c.loop-row.numbered _ (row_cells c.args.g.now) c.loop-row.row c.loop-row.invariant c.in_ok-add_row.ensures
