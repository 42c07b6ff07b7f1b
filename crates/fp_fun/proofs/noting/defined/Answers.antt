use Rattle.fp_fun.proofs.Extending.{unchanged}
use Rattle.fp_fun.proofs.noting.defined.Goals as goal

pub returns-in-Err-clause-extends : goal.returns-in-Err-clause-extends
returns-in-Err-clause-extends c = unchanged c.args.theory.now c.define_group.new.theory c.in-Err.ensures.err
