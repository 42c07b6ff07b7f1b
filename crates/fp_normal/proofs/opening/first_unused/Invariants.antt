use Rattle.std.proofs.Common.{◌≡◌, ℕ, ◌<◌, ◌≤◌, true}
use Rattle.fp_conclude.specs.Hypotheses.{occurs}
use Rattle.fp_conv.specs.Passes.{opening_name}
use Rattle.fp_normal.proofs.opening.first_unused.Given as goal

abbrev pub invariant-loop-number : goal.invariant-loop-number
invariant-loop-number l = (l.from ≤ l.number) × ((k : ℕ) → k < l.number → l.from ≤ k → occurs (opening_name k) l.ty l.body ≡ true)
