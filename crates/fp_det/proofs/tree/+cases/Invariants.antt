use Rattle.std.proofs.Common.{◌≡◌, ◌+◌, ◌*◌}
use Rattle.fp_det.proofs.tree.+cases.Given as goal

abbrev pub decreases-case : goal.decreases-case
decreases-case l = 4 * l.levels

abbrev pub decreases-split : goal.decreases-split
decreases-split l = 4 * l.levels + 2

abbrev pub decreases-branch_case : goal.decreases-branch_case
decreases-branch_case l = 4 * l.levels + 1

abbrev pub invariant-split-loop-branch : goal.invariant-split-loop-branch
invariant-split-loop-branch l = l.proof ≡ l.fn.proof
