use Rattle.std.proofs.lemmas.Result.{err_from_is_err_and}
use Rattle.fp_lines.specs.Lines.{unread, read}
use Rattle.fp_lines.proofs.lines.line_of_variable.Goals as goal

pub returns-in_err-variable-clause-exact : goal.returns-in_err-variable-clause-exact
returns-in_err-variable-clause-exact c =
    let p = err_from_is_err_and c.from_residual-in_err-variable.result c.from_residual-in_err-variable.ensures.1 in
    let k = rw c.signature.ensures at c.in-Some.ensures in
    rw (p.1, p.2, k, c.in_ok-a.ensures.exact) (unread c.in_err-variable.ensures)

pub returns-clause-exact : goal.returns-clause-exact
returns-clause-exact c =
    let k = rw c.signature.ensures at c.in-Some.ensures in
    rw (k, c.in_ok-a.ensures.exact) (read c.in_ok-variable.variable c.in_ok-variable.ensures c.tell_variable.ensures.exact)
