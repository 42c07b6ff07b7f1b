use Rattle.std.proofs.Common.{◌≡◌}
use Rattle.fp_meaning.proofs.shared.Setting.out_in.Given as goal

abbrev pub invariant-loop-function : goal.invariant-loop-function
invariant-loop-function l = l.proof ≡ l.fn.proof
