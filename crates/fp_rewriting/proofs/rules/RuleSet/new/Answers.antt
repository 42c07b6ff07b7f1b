use Rattle.fp_rewriting.proofs.Indexed.{indexed}
use Rattle.fp_rewriting.proofs.rules.RuleSet.new.Goals as goal

pub invariant_of-result : goal.invariant_of-result
invariant_of-result c = indexed _ _ (rw c.as_slice.ensures at c.in_ok-index.ensures) (rw c.from_vec-rules.ensures c.requires)
