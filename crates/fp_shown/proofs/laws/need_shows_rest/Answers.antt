use Rattle.fp_shown.proofs.Needs as needs
use Rattle.fp_shown.proofs.laws.need_shows_rest.Goals as goal

pub returns : goal.returns
returns c = needs.need_shows_rest c.args.g.now
