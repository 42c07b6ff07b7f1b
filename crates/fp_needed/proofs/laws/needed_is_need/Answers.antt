use Rattle.fp_needed.proofs.Settled.{needed_need}
use Rattle.fp_needed.proofs.laws.needed_is_need.Goals as goal

pub returns : goal.returns
returns c = needed_need c.args.g.now c.args.rules.now c.args.cells.now
