use Rattle.std.proofs.Common.{refl}
use Rattle.fp_kernel.specs.Definitions.{whole}
use Rattle.fp_logic.proofs.Turning.{lifted}
use Rattle.fp_quant.proofs.witness.choose_known.Goals as goal

pub each_implied-requires-clause-predicate : goal.each_implied-requires-clause-predicate
each_implied-requires-clause-predicate c = c.requires.existence.2

pub each_implied-requires-clause-abstraction : goal.each_implied-requires-clause-abstraction
each_implied-requires-clause-abstraction c = c.requires.abstraction

pub each_implied-requires-clause-apart : goal.each_implied-requires-clause-apart
each_implied-requires-clause-apart c = c.requires.apart

pub each_implied-requires-clause-predicate_apart : goal.each_implied-requires-clause-predicate_apart
each_implied-requires-clause-predicate_apart c = c.requires.predicate_apart

pub each_implied-requires-clause-concl_apart : goal.each_implied-requires-clause-concl_apart
each_implied-requires-clause-concl_apart c = c.requires.concl_apart

pub reaching-requires-clause-existence : goal.reaching-requires-clause-existence
reaching-requires-clause-existence c = c.requires.existence

pub reaching-requires-clause-formula : goal.reaching-requires-clause-formula
reaching-requires-clause-formula c = rw c.concl.ensures.value (lifted c.args.defs.now c.args.b.now c.requires.within c.concl.ensures.derived)

pub mp_known-requires-clause-first_within : goal.mp_known-requires-clause-first_within
mp_known-requires-clause-first_within c = rw c.in_ok-reaching.ensures whole

pub mp_known-requires-clause-second_within : goal.mp_known-requires-clause-second_within
mp_known-requires-clause-second_within c = rw c.in_ok-each.ensures whole

pub mp_known-requires-clause-shape : goal.mp_known-requires-clause-shape
mp_known-requires-clause-shape c = rw (c.in_ok-each.ensures, c.in_ok-reaching.ensures, c.concl.ensures.value) refl

pub returns : goal.returns
returns c = rw (c.in_ok-each.ensures, c.in_ok-reaching.ensures, c.concl.ensures.value) at c.mp_known.ensures
