use Rattle.fp_kernel.specs.Definitions.{whole}
use Rattle.fp_disjunction.proofs.negation.contradiction_of.Goals as goal

pub antisym_known-requires : goal.antisym_known-requires
antisym_known-requires c = rw (c.in_ok-first.ensures, c.in_ok-second.ensures) (whole, whole)

pub returns : goal.returns
returns c = rw (c.in_ok-first.ensures, c.in_ok-second.ensures) at c.antisym_known.ensures
