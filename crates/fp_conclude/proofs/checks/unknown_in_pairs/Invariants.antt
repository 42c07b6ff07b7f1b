use Rattle.std.proofs.Common.{◌≡◌, drop}
use Rattle.fp_conclude.specs.Checks.{unknown_in_pairs}
use Rattle.fp_conclude.proofs.checks.unknown_in_pairs.Given as goal

abbrev pub invariant-loop-pair : goal.invariant-loop-pair
invariant-loop-pair l = unknown_in_pairs l.signature l.pairs ≡ unknown_in_pairs l.signature (drop l.pair-index l.pairs)
