use Rattle.fp_shown.proofs.Free as free
use Rattle.fp_shown.proofs.laws.shown_free.Goals as goal

pub returns : goal.returns
returns c = free.shown_free c.args.g.now c.requires
