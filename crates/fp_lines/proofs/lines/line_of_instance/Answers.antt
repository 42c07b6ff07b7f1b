use Rattle.std.proofs.Common.{refl}
use Rattle.std.proofs.lemmas.Result.{err_from_is_err_and}
use Rattle.fp_lines.proofs.lines.line_of_instance.Goals as goal

pub returns-then-not-are_term_pairs-clause-exact : goal.returns-then-not-are_term_pairs-clause-exact
returns-then-not-are_term_pairs-clause-exact c =
    let kinds = rw c.signature.ensures at c.if-not-are_term_pairs.ensures in
    rw (c.in-Some.ensures, ← kinds) refl

pub returns-in_err-a-clause-exact : goal.returns-in_err-a-clause-exact
returns-in_err-a-clause-exact c =
    let p = err_from_is_err_and c.from_residual.result c.from_residual.ensures.1 in
    let kinds = rw c.signature.ensures at c.if-not-are_term_pairs.ensures in
    rw (p.1, p.2, c.in-Some.ensures, ← kinds, c.in_err-a.ensures.exact) refl

pub returns-clause-exact : goal.returns-clause-exact
returns-clause-exact c =
    let kinds = rw c.signature.ensures at c.if-not-are_term_pairs.ensures in
    rw (c.in-Some.ensures, ← kinds, c.in_ok-a.ensures.exact) c.instance.ensures.exact
