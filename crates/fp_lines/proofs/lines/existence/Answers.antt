use Rattle.std.proofs.lemmas.Result.{err_from_is_err_and}
use Rattle.fp_lines.specs.Lines.{unread, read}
use Rattle.fp_lines.proofs.lines.existence.Goals as goal

pub returns-in_err-term-clause-exact : goal.returns-in_err-term-clause-exact
returns-in_err-term-clause-exact c =
    let p = err_from_is_err_and c.from_residual.result c.from_residual.ensures.1 in
    rw (p.1, p.2) (unread c.in_err-term.ensures)

pub returns-in_err-witness-clause-exact : goal.returns-in_err-witness-clause-exact
returns-in_err-witness-clause-exact c =
    let p = err_from_is_err_and c.from_residual-in_err-witness.result c.from_residual-in_err-witness.ensures.1 in
    rw (p.1, p.2) (read c.in_ok-term.term c.in_ok-term.ensures (unread c.in_err-witness.ensures))

pub returns-clause-exact : goal.returns-clause-exact
returns-clause-exact c =
    read c.in_ok-term.term c.in_ok-term.ensures (read c.in_ok-witness.witness c.in_ok-witness.ensures c.tell_witness.ensures.exact)
