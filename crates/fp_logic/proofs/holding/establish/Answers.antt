use Rattle.fp_logic.proofs.Turning.{establish_asks}
use Rattle.fp_logic.proofs.holding.establish.Goals as goal

pub with_meaning-requires-clause-within : goal.with_meaning-requires-clause-within
with_meaning-requires-clause-within c = c.requires.0

pub with_meaning-requires-clause-shape : goal.with_meaning-requires-clause-shape
with_meaning-requires-clause-shape c = c.requires.2

pub carry-requires : goal.carry-requires
carry-requires c = rw (c.in_ok-first.ensures, c.in_ok-third.ensures) (establish_asks c.args.defs.now c.args.first.now c.args.second.now c.args.own.now c.requires)

pub returns : goal.returns
returns c = rw c.in_ok-first.ensures at c.carry.ensures
