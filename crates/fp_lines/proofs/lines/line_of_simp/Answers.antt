use Rattle.std.proofs.lemmas.Result.{err_from_is_err_and}
use Rattle.fp_lines.specs.Lines.{unread, read}
use Rattle.fp_lines.proofs.lines.line_of_simp.Goals as goal

pub returns-in_err-term-clause-exact : goal.returns-in_err-term-clause-exact
returns-in_err-term-clause-exact c =
    let p = err_from_is_err_and c.from_residual.result c.from_residual.ensures.1 in
    rw (p.1, p.2, ← c.in-Some.ensures) (unread c.in_err-term.ensures)

pub returns-clause-exact : goal.returns-clause-exact
returns-clause-exact c =
    let told = rw (← c.requires.same) at c.tell_simp.ensures.exact in
    rw (← c.in-Some.ensures) (read c.in_ok-term.term c.in_ok-term.ensures told)
