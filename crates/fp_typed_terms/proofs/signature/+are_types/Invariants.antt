use Rattle.std.proofs.Common.{length}
use Rattle.fp_typed_terms.proofs.signature.+are_types.Given as goal

abbrev pub decreases-are_types : goal.decreases-are_types
decreases-are_types l = length l.pairs.now
