use Rattle.std.proofs.Common.{refl}
use Rattle.fp_kernel.specs.Definitions.{whole}
use Rattle.fp_quant.proofs.Existing.{at_choice_formula}
use Rattle.fp_quant.proofs.witness.held_at_choice.Goals as goal

pub reaching-requires-clause-existence : goal.reaching-requires-clause-existence
reaching-requires-clause-existence c = c.requires

pub reaching-requires-clause-formula : goal.reaching-requires-clause-formula
reaching-requires-clause-formula c = rw c.in_ok-formula.ensures (at_choice_formula c.args.defs.now c.args.ty.now c.args.predicate.now c.requires.2)

pub choice_at-requires : goal.choice_at-requires
choice_at-requires c = c.requires.2

pub mp_known-requires-clause-first_within : goal.mp_known-requires-clause-first_within
mp_known-requires-clause-first_within c = rw c.in_ok-reaching.ensures whole

pub mp_known-requires-clause-second_within : goal.mp_known-requires-clause-second_within
mp_known-requires-clause-second_within c = rw c.in_ok-each.ensures whole

pub mp_known-requires-clause-shape : goal.mp_known-requires-clause-shape
mp_known-requires-clause-shape c = rw (c.in_ok-each.ensures, c.in_ok-reaching.ensures, c.in_ok-formula.ensures) refl

pub returns : goal.returns
returns c = rw (c.in_ok-each.ensures, c.in_ok-reaching.ensures, c.in_ok-formula.ensures) at c.mp_known.ensures
