use Rattle.fp_conv.proofs.Given.{within}
use Rattle.fp_conv.proofs.Determined.{only_result}
use Rattle.fp_conv.proofs.Walking.{formula_later, moved_given, moved_rewritten}
use Rattle.fp_conv.proofs.outermost.rewrite.Goals as goal

pub rewriting-requires-clause-formula : goal.rewriting-requires-clause-formula
rewriting-requires-clause-formula c = formula_later c.args.defs.now c.args.b.now c.concl-2.result.now c.requires.second_within c.concl-2.ensures.derived c.concl-2.ensures.value

pub eq_mp_known-requires-clause-first_within : goal.eq_mp_known-requires-clause-first_within
eq_mp_known-requires-clause-first_within c = within c.in_ok-equal.ensures.equates

pub eq_mp_known-requires-clause-given : goal.eq_mp_known-requires-clause-given
eq_mp_known-requires-clause-given c =
    let e = c.in-Some.sides in
    moved_given c.args.a.now c.args.b.now c.in_ok-equal.equal e.ty.now e.left.now e.right.now (rw c.concl.ensures.value at c.in-Some.ensures.parts) c.concl-2.result.now c.concl-2.ensures.value c.in_ok-equal.ensures

pub returns-clause-ok : goal.returns-clause-ok
returns-clause-ok c =
    let e = c.in-Some.sides in
    moved_rewritten c.args.a.now c.args.b.now c.in_ok-equal.equal e.ty.now e.left.now e.right.now (rw c.concl.ensures.value at c.in-Some.ensures.parts) c.concl-2.result.now c.concl-2.ensures.value c.in_ok-equal.ensures
    c.in_ok-eq_mp_known.field-0 c.in_ok-eq_mp_known.ensures

pub returns-clause-determined : goal.returns-clause-determined
returns-clause-determined c =
    let e = c.in-Some.sides in
    only_result c.args.defs.now c.args.a.now c.args.b.now c.in_ok-eq_mp_known.field-0
    (moved_rewritten c.args.a.now c.args.b.now c.in_ok-equal.equal e.ty.now e.left.now e.right.now (rw c.concl.ensures.value at c.in-Some.ensures.parts) c.concl-2.result.now c.concl-2.ensures.value c.in_ok-equal.ensures
    c.in_ok-eq_mp_known.field-0 c.in_ok-eq_mp_known.ensures)
