use Rattle.fp_shown.proofs.Free as free
use Rattle.fp_shown.proofs.laws.rows_left_decide.Goals as goal

pub returns : goal.returns
returns c = free.rows_left_decide c.args.g.now c.requires
