use Rattle.std.proofs.Common.{◌≡◌, ◌≤◌, length, drop}
use Rattle.fp_theory.specs.Changes.{least_number}
use Rattle.fp_theory.proofs.theory.least_number.Given as goal

abbrev pub invariant-loop-at : goal.invariant-loop-at
invariant-loop-at l = (l.at ≤ length l.promises) × (l.least ≡ least_number (drop l.at l.promises))

abbrev pub decreases-loop-at : goal.decreases-loop-at
decreases-loop-at l = l.at
