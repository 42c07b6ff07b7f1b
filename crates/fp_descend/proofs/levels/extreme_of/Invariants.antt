use Rattle.std.proofs.Common.{◌≤◌, length}
use Rattle.fp_descend.proofs.levels.extreme_of.Given as goal

abbrev pub invariant-loop-at : goal.invariant-loop-at
invariant-loop-at l = l.at ≤ length l.numbers

abbrev pub decreases-loop-at : goal.decreases-loop-at
decreases-loop-at l = l.at
