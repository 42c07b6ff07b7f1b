use Rattle.fp_shown.proofs.Needs as needs
use Rattle.fp_shown.proofs.laws.need_is_one.Goals as goal

pub returns : goal.returns
returns c = needs.need_is_one c.args.g.now c.requires
