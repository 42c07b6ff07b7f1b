use Rattle.fp_command.proofs.Refusing.{formula_judged}
use Rattle.fp_command.proofs.lemma.formula.Goals as goal

pub returns-in-Ok-clause-refused : goal.returns-in-Ok-clause-refused
returns-in-Ok-clause-refused c =
    formula_judged c.args.theory.now c.args.at c.args.raw.now c.in-Ok.statement c.judged.result c.in-Ok.ensures.typed c.judged.ensures.refused
