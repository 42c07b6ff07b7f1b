use Rattle.std.proofs.Common.{refl}
use Rattle.fp_quant.proofs.witness.reaching.Goals as goal

pub elimination_at-requires-clause-predicate : goal.elimination_at-requires-clause-predicate
elimination_at-requires-clause-predicate c = c.requires.existence.2

pub elimination_at-requires-clause-formula : goal.elimination_at-requires-clause-formula
elimination_at-requires-clause-formula c = c.requires.formula

pub by_rule-requires-clause-rule : goal.by_rule-requires-clause-rule
by_rule-requires-clause-rule c = rw (c.in_ok-rule.ensures, c.requires.existence.1) refl

pub by_rule-requires-clause-within : goal.by_rule-requires-clause-within
by_rule-requires-clause-within c = c.requires.existence.0

pub returns : goal.returns
returns c = rw c.in_ok-rule.ensures at c.by_rule.ensures
