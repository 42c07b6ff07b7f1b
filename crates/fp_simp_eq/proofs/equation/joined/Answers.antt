use Rattle.fp_kernel.specs.Definitions.{whole}
use Rattle.fp_simp_eq.proofs.Joined.{over_all}
use Rattle.fp_simp_eq.proofs.equation.joined.Goals as goal

pub trans-requires-clause-first_within : goal.trans-requires-clause-first_within
trans-requires-clause-first_within c = rw c.requires.itself.is whole

pub trans-requires-clause-second_within : goal.trans-requires-clause-second_within
trans-requires-clause-second_within c = c.requires.equates.rests.over

pub returns-in-Ok : goal.returns-in-Ok
returns-in-Ok c =
    over_all c.args.defs.now c.args.term.now c.args.answer.now c.args.itself.now c.args.th.now c.in-Ok.th c.requires.itself c.requires.equates c.in-Ok.ensures
