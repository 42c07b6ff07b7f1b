use Rattle.fp_order.specs.Grid.{source_cells}
use Rattle.fp_order.proofs.Gained.{gains_none, gains_flat}
use Rattle.fp_order.proofs.numbering.add_row.Goals as goal

pub loop-source-init : goal.loop-source-init
loop-source-init c = gains_none c.args.g.now _ c.requires.numbered

pub loop-source-preserved : goal.loop-source-preserved
loop-source-preserved c = gains_flat c.args.g.now c.args.numbered.now c.loop-source.numbered _ (source_cells c.args.g.now c.args.row) c.loop-source.source c.loop-source.invariant c.in_ok-add_source.ensures
