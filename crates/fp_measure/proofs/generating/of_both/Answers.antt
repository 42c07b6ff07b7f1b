use Rattle.fp_measure.proofs.Generated.{joined_parts, joined_measure}
use Rattle.fp_measure.proofs.generating.of_both.Goals as goal

pub returns-clause-joins : goal.returns-clause-joins
returns-clause-joins g c =
    joined_parts c.args.pair.now c.args.left.now c.args.right.now c.args.lefts.now c.args.rights.now c.in_ok-lefts.lefts c.in_ok-rights.rights c.in_ok-own.own c.in_ok-extended.field-0 c.in_ok-first.first c.in_ok-second.second
    c.in_ok-first.ensures c.in_ok-second.ensures _ c.extended-2.result c.in_ok-lefts.ensures c.in_ok-rights.ensures c.in_ok-own.ensures.exact c.in_ok-extended.ensures c.extended-2.ensures

pub returns-clause-measures : goal.returns-clause-measures
returns-clause-measures g c =
    joined_measure c.args.pair.now c.args.left.now c.args.right.now c.args.lefts.now c.args.rights.now c.in_ok-lefts.lefts c.in_ok-rights.rights c.in_ok-own.own c.in_ok-extended.field-0 c.in_ok-first.first c.in_ok-second.second
    c.in_ok-first.ensures c.in_ok-second.ensures c.extended-2.result c.requires.lefts c.requires.rights c.in_ok-lefts.ensures c.in_ok-rights.ensures c.in_ok-own.ensures.measures c.in_ok-extended.ensures c.extended-2.ensures
