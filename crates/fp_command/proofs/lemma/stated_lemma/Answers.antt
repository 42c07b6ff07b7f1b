use Rattle.fp_command.proofs.Accepting.{plain_within}
use Rattle.fp_command.proofs.lemma.stated_lemma.Goals as goal

pub noted-requires-clause-within : goal.noted-requires-clause-within
noted-requires-clause-within c = plain_within c.args.theory.now.defs c.in-Ok.theorem c.args.statement.now c.in-Ok.ensures.proved
