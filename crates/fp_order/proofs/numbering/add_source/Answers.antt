use Rattle.fp_order.proofs.Gained.{gains_none, gains_map}
use Rattle.fp_order.proofs.numbering.add_source.Goals as goal

pub loop-target-init : goal.loop-target-init
loop-target-init c = gains_none c.args.g.now _ c.requires.numbered

pub loop-target-preserved : goal.loop-target-preserved
loop-target-preserved c = gains_map c.args.g.now c.args.numbered.now c.loop-target.numbered _ (λ t. record { row = c.args.row; source = c.args.source; target = t }) c.loop-target.target c.loop-target.invariant c.in_ok-add.ensures
