use Rattle.std.proofs.Common.{arith, rules, ap, ◌∙◌, sym, length, false, ◌||◌}
use Rattle.fp_board.proofs.Merges.{both_start, both_step}
use Rattle.fp_board.proofs.learning.learn_noted.Goals as goal

pub loop-k-init : goal.loop-k-init
loop-k-init c = both_start _ _ c.args.other.now

pub loop-k-preserved : goal.loop-k-preserved
loop-k-preserved c = ap (λ x. Rattle.std.proofs.Common.set c.loop-k.noted c.loop-k.k x) (search rules) ∙ both_step (λ a b. a || b) false c.args.noted.now c.args.other.now c.loop-k.noted c.loop-k.k (search rules) (search rules) c.loop-k.invariant
