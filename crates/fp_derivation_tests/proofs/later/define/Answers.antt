use Rattle.fp_derivation_tests.proofs.Listed.{longer, defined}
use Rattle.fp_derivation_tests.proofs.later.define.Goals as goal

pub returns-clause-theorem : goal.returns-clause-theorem
returns-clause-theorem c =
    defined c.args.defs.now c.define.new.self c.in_ok-constant.constant c.in_ok-body.body c.define.result c.define.ensures.ok

pub returns-clause-longer : goal.returns-clause-longer
returns-clause-longer c =
    longer c.args.defs.now c.define.new.self c.in_ok-constant.constant c.in_ok-body.body c.define.result c.define.ensures.ok
