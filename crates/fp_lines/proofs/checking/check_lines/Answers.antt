use Rattle.std.specs.Prelude.{Err}
use Rattle.std.proofs.lemmas.Result.{err_from_is_err_and}
use Rattle.fp_lines.specs.declared.fault.ProofFault.TheVariants.{NoMemory}
use Rattle.fp_lines.specs.Checks.{wanting}
use Rattle.fp_lines.proofs.Usable.{one_line_more, leads_on, leads_to_fault}
use Rattle.fp_lines.proofs.checking.check_lines.Goals as goal

pub returns-in_err-theorem-clause-exact : goal.returns-in_err-theorem-clause-exact
returns-in_err-theorem-clause-exact c =
    let p = err_from_is_err_and c.from_residual.result c.from_residual.ensures.1 in
    let failed = rw c.as_slice.ensures.value at c.in_err-theorem.ensures.exact in
    rw (p.1, p.2)
    (leads_to_fault c.args.defs.now c.args.theory.now.named c.args.theory.now.simps c.args.given.now c.args.statement.now c.loop-line.before.items c.loop-line.number c.args.lines.now c.loop-line.line-index c.line-item.result c.in_err-theorem.field-0.0
    c.loop-line-test.true c.line-item.is failed c.loop-line.invariant.1)

pub returns-then-number-clause-exact : goal.returns-then-number-clause-exact
returns-then-number-clause-exact c = c.loop-line.invariant.1 (Err NoMemory) wanting

pub returns-in_err-push_line-clause-exact : goal.returns-in_err-push_line-clause-exact
returns-in_err-push_line-clause-exact c =
    let p = err_from_is_err_and c.from_residual-in_err-push_line.result c.from_residual-in_err-push_line.ensures.1 in
    rw (p.1, p.2) (c.loop-line.invariant.1 (Err NoMemory) wanting)

pub loop-line-preserved : goal.loop-line-preserved
loop-line-preserved c =
    let gives = rw c.as_slice.ensures.value at c.in_ok-theorem.ensures.exact in
    rw c.in_ok-push_line.ensures (
      one_line_more c.args.defs.now c.loop-line.before.items c.in_ok-theorem.theorem c.loop-line.invariant.0 c.in_ok-theorem.ensures.line,
      leads_on c.args.defs.now c.args.theory.now.named c.args.theory.now.simps c.args.given.now c.args.statement.now c.loop-line.before.items c.loop-line.number c.args.lines.now c.loop-line.line-index c.line-item.result c.in_ok-theorem.theorem
          c.loop-line-test.true c.line-item.is gives c.loop-line.invariant.1,
    )
