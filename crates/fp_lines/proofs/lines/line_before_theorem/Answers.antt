use Rattle.std.proofs.lemmas.Result.{err_from_is_err_and}
use Rattle.fp_lines.specs.Lines.{unread, read}
use Rattle.fp_lines.proofs.lines.line_before_theorem.Goals as goal

pub returns-in_err-term-clause-exact : goal.returns-in_err-term-clause-exact
returns-in_err-term-clause-exact c =
    let p = err_from_is_err_and c.from_residual-in_err-term.result c.from_residual-in_err-term.ensures.1 in
    rw (p.1, p.2, c.in-Some.ensures, c.in_ok-a.ensures.exact) (unread c.in_err-term.ensures)

pub returns-clause-exact : goal.returns-clause-exact
returns-clause-exact c =
    rw (c.in-Some.ensures, c.in_ok-a.ensures.exact) (read c.in_ok-term.term c.in_ok-term.ensures c.tell_before_theorem.ensures.exact)
