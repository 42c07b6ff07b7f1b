use Rattle.fp_shown.proofs.Free.{closed_one}
use Rattle.fp_shown.proofs.laws.closed_has_one_result.Goals as goal

pub returns : goal.returns
returns c = closed_one c.args.g.now c.requires
