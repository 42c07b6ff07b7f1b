use Rattle.std.proofs.lemmas.Result.{err_from_is_err_and}
use Rattle.fp_lines.specs.Checks.{wanting}
use Rattle.fp_lines.proofs.checking.check_proof.Goals as goal

pub proof_over-requires-clause-known : goal.proof_over-requires-clause-known
proof_over-requires-clause-known c = rw (c.defs.ensures, c.as_slice.ensures, c.in_ok-given.ensures) c.requires.known

pub returns-in_err-given-clause-exact : goal.returns-in_err-given-clause-exact
returns-in_err-given-clause-exact c =
    let p = err_from_is_err_and c.from_residual.result c.from_residual.ensures.1 in
    rw (p.1, p.2) wanting
