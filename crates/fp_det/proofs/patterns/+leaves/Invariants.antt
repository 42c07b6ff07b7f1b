use Rattle.std.proofs.Common.{◌≡◌, ◌+◌, ◌*◌}
use Rattle.fp_det.proofs.patterns.+leaves.Given as goal

abbrev pub decreases-add_leaves : goal.decreases-add_leaves
decreases-add_leaves l = 2 * l.levels

abbrev pub decreases-add_all_leaves : goal.decreases-add_all_leaves
decreases-add_all_leaves l = 2 * l.levels + 1

abbrev pub invariant-add_all_leaves-loop-equation : goal.invariant-add_all_leaves-loop-equation
invariant-add_all_leaves-loop-equation l = l.proof ≡ l.fn.proof
