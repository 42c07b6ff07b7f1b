use Rattle.fp_conclude.specs.Logic.{truth_type}
use Rattle.fp_conv.proofs.Unused.{unused_in_hyps}
use Rattle.fp_conv.proofs.outermost.unchanged.Goals as goal

pub carried-requires-clause-apart : goal.carried-requires-clause-apart
carried-requires-clause-apart c =
    unused_in_hyps c.in_ok-name.name truth_type c.args.formula.now c.args.sides.now.left.now c.args.sides.now.right.now c.args.eq.now.hyps (rw c.hyps-2.ensures.value at c.in_ok-name.ensures)
