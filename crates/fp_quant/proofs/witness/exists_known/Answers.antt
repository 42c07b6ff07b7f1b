use Rattle.std.proofs.Common.{refl}
use Rattle.fp_kernel.specs.Definitions.{whole}
use Rattle.fp_quant.proofs.witness.exists_known.Goals as goal

pub held_at-requires-clause-shape : goal.held_at-requires-clause-shape
held_at-requires-clause-shape c = rw c.in_ok-predicate.ensures c.requires.shape

pub held_at-requires-clause-abstraction : goal.held_at-requires-clause-abstraction
held_at-requires-clause-abstraction c = rw c.in_ok-predicate.ensures refl

pub held_at-requires-clause-typed : goal.held_at-requires-clause-typed
held_at-requires-clause-typed c = (c.args.ty.now, rw c.in_ok-predicate.ensures c.requires.predicate, c.requires.typed)

pub introduction_at-requires-clause-predicate : goal.introduction_at-requires-clause-predicate
introduction_at-requires-clause-predicate c = rw c.in_ok-predicate.ensures c.requires.predicate

pub introduction_at-requires-clause-typed : goal.introduction_at-requires-clause-typed
introduction_at-requires-clause-typed c = c.requires.typed

pub by_rule-requires-clause-rule : goal.by_rule-requires-clause-rule
by_rule-requires-clause-rule c = rw (c.in_ok-rule.ensures, c.in_ok-held.ensures) refl

pub by_rule-requires-clause-within : goal.by_rule-requires-clause-within
by_rule-requires-clause-within c = rw c.in_ok-held.ensures whole

pub returns : goal.returns
returns c = rw (c.in_ok-rule.ensures, c.in_ok-held.ensures, c.in_ok-predicate.ensures) at c.by_rule.ensures
