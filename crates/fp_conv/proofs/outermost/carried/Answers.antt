use Rattle.fp_conv.proofs.Carried.{equal_defs, carried_given, carried_equates}
use Rattle.fp_conv.proofs.outermost.carried.Goals as goal

pub with_formula-requires-clause-within : goal.with_formula-requires-clause-within
with_formula-requires-clause-within c = equal_defs c.args.defs.now c.in_ok-th.th _ _ _ c.in_ok-th.ensures

pub with_formula-requires-clause-given : goal.with_formula-requires-clause-given
with_formula-requires-clause-given c =
    carried_given c.args.defs.now c.args.eq.now c.args.name.now c.in_ok-variable.variable c.in_ok-variable.ensures c.requires.apart c.in_ok-th.th c.in_ok-th.ensures c.hyps.ensures.set c.args.formula.now c.requires.formula

pub returns : goal.returns
returns c =
    carried_equates c.args.defs.now c.args.eq.now c.args.name.now c.in_ok-variable.variable c.in_ok-variable.ensures c.requires.apart c.in_ok-th.th c.in_ok-th.ensures c.hyps.ensures.set c.args.formula.now c.requires.formula
    c.with_formula.result c.with_formula.ensures
