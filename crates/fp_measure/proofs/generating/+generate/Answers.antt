use Rattle.fp_measure.proofs.Generated.{pair_generates, other_generates, first_measure}
use Rattle.fp_measure.proofs.generating.+generate.Goals as goal

pub returns-in_default-clause-exact : goal.returns-in_default-clause-exact
returns-in_default-clause-exact g t c =
    other_generates _ c.args.limit c.args.ty.now c.in_ok-own.own c.as_slice.result.now c.first_of.result c.in_default.ensures c.in_ok-own.ensures.exact c.as_slice.ensures c.first_of.ensures

pub returns-in_default-clause-measures : goal.returns-in_default-clause-measures
returns-in_default-clause-measures g t c =
    first_measure c.args.ty.now c.args.limit c.in_ok-own.own c.as_slice.result.now c.first_of.result c.in_ok-own.ensures.measures c.as_slice.ensures c.first_of.ensures

pub returns-clause-exact : goal.returns-clause-exact
returns-clause-exact g t c =
    pair_generates _ c.args.limit c.args.ty.now c.in-Some.parts.left.now c.in-Some.parts.right.now c.in_ok-lefts.lefts c.in_ok-rights.rights c.as_slice-2.result.now c.as_slice-3.result.now c.in_ok-all.all c.as_slice-4.result.now c.first_of-2.result
    c.in-Some.ensures c.in_ok-lefts.ensures.exact c.in_ok-rights.ensures.exact c.as_slice-2.ensures c.as_slice-3.ensures c.in_ok-all.ensures.joins c.as_slice-4.ensures c.first_of-2.ensures

pub returns-clause-measures : goal.returns-clause-measures
returns-clause-measures g t c =
    first_measure c.args.ty.now c.args.limit c.in_ok-all.all c.as_slice-4.result.now c.first_of-2.result c.in_ok-all.ensures.measures c.as_slice-4.ensures c.first_of-2.ensures
