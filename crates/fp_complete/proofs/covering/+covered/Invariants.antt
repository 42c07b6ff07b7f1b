use Rattle.std.proofs.Common.{◌≡◌, ◌+◌, ◌*◌}
use Rattle.fp_complete.proofs.covering.+covered.Given as goal

abbrev pub decreases-covered : goal.decreases-covered
decreases-covered l = 3 * l.levels

abbrev pub decreases-covered_branches : goal.decreases-covered_branches
decreases-covered_branches l = 3 * l.levels + 1

abbrev pub decreases-covered_by_split : goal.decreases-covered_by_split
decreases-covered_by_split l = 3 * l.levels + 2

abbrev pub invariant-covered_branches-loop-branch : goal.invariant-covered_branches-loop-branch
invariant-covered_branches-loop-branch l = l.proof ≡ l.fn.proof
