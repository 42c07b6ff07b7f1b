use Rattle.std.proofs.Common.{◌<◌, length, arith}
use Rattle.fp_graph.specs.Each.{memory}
use Rattle.fp_graph.proofs.Growing.{grown, leads_on, blames_on, blamed, at_start, err_of, ended}
use Rattle.fp_graph.proofs.group.define_each.Goals as goal

pub loop-name-init : goal.loop-name-init
loop-name-init c = rw c.new-theorems.ensures (at_start c.args.theory.now c.args.terms.now)

pub returns-in_err-theorem-clause-refused : goal.returns-in_err-theorem-clause-refused
returns-in_err-theorem-clause-refused c =
    let h : c.loop-name.name-index < length c.args.terms.now = omega (arith, c.loop-name-test.true) in
    err_of c.from_residual.result c.in_err-theorem.field-0.0 c.from_residual.ensures.1
    (blamed c.args.theory.now c.loop-name.theory c.args.terms.now c.loop-name.name-index c.loop-name-item.result c.in_err-theorem.field-0.0 c.loop-name-item.is h c.in_err-theorem.ensures.refused c.loop-name.invariant.1)

pub returns-in_err-push-clause-refused : goal.returns-in_err-push-clause-refused
returns-in_err-push-clause-refused c = err_of c.from_residual-in_err-push.result _ c.from_residual-in_err-push.ensures.1 memory

pub returns-in_err-push-clause-grown : goal.returns-in_err-push-clause-grown
returns-in_err-push-clause-grown c =
    grown c.args.theory.now c.loop-name.theory c.define.new.self c.loop-name-item.result.0 c.loop-name-item.result.1 c.in_ok-theorem.theorem c.loop-name.invariant.2 c.in_ok-theorem.ensures.ok

pub loop-name-preserved : goal.loop-name-preserved
loop-name-preserved c =
    let h : c.loop-name.name-index < length c.args.terms.now = omega (arith, c.loop-name-test.true) in
    let old = c.args.theory.now in
    let now = c.loop-name.theory in
    let t = c.define.new.self in
    let p = c.loop-name-item.result in
    let th = c.in_ok-theorem.theorem in
    let d = c.in_ok-theorem.ensures.ok in
    let i = c.loop-name.name-index in
    let all = c.args.terms.now in (
      rw c.in_ok-push.ensures.ok (leads_on old now t all c.loop-name.theorems i p th c.loop-name-item.is h d c.loop-name.invariant.0),
      blames_on old now t all i p th c.loop-name-item.is h d c.loop-name.invariant.1,
      grown old now t p.0 p.1 th c.loop-name.invariant.2 d,
    )

pub returns-clause-ok : goal.returns-clause-ok
returns-clause-ok c = ended c.args.theory.now c.loop-name.theory c.args.terms.now c.loop-name.theorems c.loop-name.name-index (omega (arith, c.loop-name-test.false)) c.loop-name.invariant.0
