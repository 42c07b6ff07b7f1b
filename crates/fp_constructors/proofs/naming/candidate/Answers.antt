use Rattle.fp_unify.proofs.Named.{candidate_is_name}
use Rattle.fp_constructors.proofs.naming.candidate.Goals as goal

pub of-requires : goal.of-requires
of-requires c = candidate_is_name c.args.place _ _ c.ranges.place.fits c.in_ok-bytes.ensures c.as_slice.ensures.value
