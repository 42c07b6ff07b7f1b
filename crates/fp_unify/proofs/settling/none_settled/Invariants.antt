use Rattle.std.proofs.Common.{◌≡◌, replicate, false}
use Rattle.fp_unify.proofs.settling.none_settled.Given as goal

abbrev pub invariant-loop : goal.invariant-loop
invariant-loop l = l.flags.items ≡ replicate l.counter false
