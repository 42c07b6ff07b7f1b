use Rattle.std.proofs.Common.{arith}
use Rattle.fp_unify.proofs.Named.{fresh_unused}
use Rattle.fp_unify.proofs.naming.next_name.Goals as goal

pub returns-then-not-is_among-clause-unused : goal.returns-then-not-is_among-clause-unused
returns-then-not-is_among-clause-unused c = fresh_unused c.args.written.now c.args.next.now c.loop-place.place _ c.loop-place.invariant (omega (arith, c.loop-place-test.true)) c.in_ok-name.ensures
