use Rattle.std.proofs.Common.{◌∙◌}
use Rattle.fp_rewriting.proofs.Indexed.{copied}
use Rattle.fp_rewriting.proofs.rules.RuleSet.copy.Goals as goal

pub invariant_of-result : goal.invariant_of-result
invariant_of-result c =
    copied _ _ _ _ (c.in_ok-rules.ensures ∙ c.as_slice.ensures) (rw c.as_slice-2.ensures at c.in_ok-index.ensures) c.self.invariant
