use Rattle.std.proofs.lemmas.Result.{err_from_is_err_and}
use Rattle.fp_lines.specs.Read.{no_room, no_variable, no_term}
use Rattle.fp_lines.proofs.pairs.push_terms.Goals as goal

pub returns-in_err-variable-clause-refused : goal.returns-in_err-variable-clause-refused
returns-in_err-variable-clause-refused c =
    let p = err_from_is_err_and c.from_residual.result c.from_residual.ensures.1 in
    rw (p.1, p.2) (no_variable c.in_err-variable.ensures)

pub returns-in_err-term-clause-refused : goal.returns-in_err-term-clause-refused
returns-in_err-term-clause-refused c =
    let p = err_from_is_err_and c.from_residual-in_err-term.result c.from_residual-in_err-term.ensures.1 in
    rw (p.1, p.2) (no_term c.in_ok-variable.variable c.in_ok-variable.ensures c.in_err-term.ensures)

pub returns-in_err-push_pair-clause-refused : goal.returns-in_err-push_pair-clause-refused
returns-in_err-push_pair-clause-refused c =
    let p = err_from_is_err_and c.from_residual-in_err-push_pair.result c.from_residual-in_err-push_pair.ensures.1 in
    rw (p.1, p.2) no_room
