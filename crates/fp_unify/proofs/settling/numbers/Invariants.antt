use Rattle.std.proofs.Common.{◌≡◌}
use Rattle.fp_unify.specs.Settled.{upto}
use Rattle.fp_unify.proofs.settling.numbers.Given as goal

abbrev pub invariant-loop-number : goal.invariant-loop-number
invariant-loop-number l = l.all.items ≡ upto l.number
