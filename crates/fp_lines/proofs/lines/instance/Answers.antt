use Rattle.std.proofs.lemmas.Result.{err_from_is_err_and}
use Rattle.fp_lines.specs.Lines.{unread_pairs, read_pairs}
use Rattle.fp_lines.proofs.lines.instance.Goals as goal

pub returns-in_err-push_term_pairs-clause-exact : goal.returns-in_err-push_term_pairs-clause-exact
returns-in_err-push_term_pairs-clause-exact c =
    let p = err_from_is_err_and c.from_residual.result c.from_residual.ensures.1 in
    rw (p.1, p.2) (unread_pairs c.in_err-push_term_pairs.ensures.refused)

pub returns-clause-exact : goal.returns-clause-exact
returns-clause-exact c =
    read_pairs c.push_term_pairs.new.pairs.items (rw c.new-pairs.ensures.items at c.in_ok-push_term_pairs.ensures.pairs) (rw c.as_slice.ensures.value at c.tell_terms.ensures.exact)
