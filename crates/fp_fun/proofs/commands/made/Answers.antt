use Rattle.fp_fun.proofs.Extending.{extends_both}
use Rattle.fp_fun.proofs.commands.made.Goals as goal

pub returns-clause-extends : goal.returns-clause-extends
returns-clause-extends c = extends_both c.args.theory.now c.defined.new.theory c.note_each.new.theory c.in_ok-defined.ensures.extends c.note_each.ensures.extends
