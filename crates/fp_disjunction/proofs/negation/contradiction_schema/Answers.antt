use Rattle.std.proofs.Common.{refl}
use Rattle.fp_disjunction.proofs.negation.contradiction_schema.Goals as goal

pub contradiction_of-requires-clause-both : goal.contradiction_of-requires-clause-both
contradiction_of-requires-clause-both c = rw (c.in_ok-both.ensures, c.in_ok-term.ensures, c.in_ok-falsity.ensures) refl
