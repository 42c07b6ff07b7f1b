use Rattle.std.proofs.Common.{◌≡◌, subst}
use Rattle.std.specs.Prelude.{IfOk}
use Rattle.fp_term.specs.Terms.{Tm}
use Rattle.fp_kernel.specs.Theorems.{plain}
use Rattle.fp_logic.proofs.Choosers.{choice_lemma_at}
use Rattle.fp_logic.proofs.choosing.choosing.Goals as goal

pub lemma_at-requires-clause-first : goal.lemma_at-requires-clause-first
lemma_at-requires-clause-first c = c.requires.left

pub lemma_at-requires-clause-second : goal.lemma_at-requires-clause-second
lemma_at-requires-clause-second c = c.requires.right

pub returns : goal.returns
returns c =
    subst (λ (x : Tm). IfOk c.lemma_at.result (λ th. th ≡ plain c.args.defs.now x)) (choice_lemma_at c.args.first c.args.left.now c.args.right.now) c.lemma_at.ensures
