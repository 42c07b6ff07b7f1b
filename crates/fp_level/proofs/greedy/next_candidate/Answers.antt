use Rattle.std.proofs.Common.{below_more, arith}
use Rattle.fp_level.proofs.greedy.next_candidate.Goals as goal

pub loop-c-preserved : goal.loop-c-preserved
loop-c-preserved c = below_more _ _ c.loop-c.invariant c.if-fits.ensures.no

pub returns : goal.returns
returns c = λ d h. c.loop-c.invariant d (omega arith)
