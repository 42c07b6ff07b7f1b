use Rattle.std.proofs.Common.{refl}
use Rattle.fp_conclude.specs.Logic.{truth_type, true_constant}
use Rattle.fp_logic.proofs.Concrete.{at_start}
use Rattle.fp_logic.proofs.truths.truth.Goals as goal

pub lemma_at-requires-clause-first : goal.lemma_at-requires-clause-first
lemma_at-requires-clause-first c = rw c.in_ok-term.ensures (at_start c.args.defs.now true_constant truth_type refl refl)

pub lemma_at-requires-clause-second : goal.lemma_at-requires-clause-second
lemma_at-requires-clause-second c = rw c.in_ok-term.ensures (at_start c.args.defs.now true_constant truth_type refl refl)
