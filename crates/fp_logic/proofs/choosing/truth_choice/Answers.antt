use Rattle.std.proofs.Common.{◌≡◌, refl, subst}
use Rattle.std.specs.Prelude.{IfOk}
use Rattle.fp_term.specs.Terms.{Tm}
use Rattle.fp_conclude.specs.Logic.{truth_type, true_constant, equal}
use Rattle.fp_kernel.specs.Theorems.{plain}
use Rattle.fp_forms.specs.Schemas.{choice}
use Rattle.fp_logic.proofs.Concrete.{at_start}
use Rattle.fp_logic.proofs.Choosers.{same_choice}
use Rattle.fp_logic.proofs.choosing.truth_choice.Goals as goal

pub choice_of-requires-clause-schema : goal.choice_of-requires-clause-schema
choice_of-requires-clause-schema c = c.requires

pub choice_of-requires-clause-left : goal.choice_of-requires-clause-left
choice_of-requires-clause-left c = rw c.in_ok-truth.ensures (at_start c.args.defs.now true_constant truth_type refl refl)

pub choice_of-requires-clause-right : goal.choice_of-requires-clause-right
choice_of-requires-clause-right c = rw c.in_ok-truth.ensures (at_start c.args.defs.now true_constant truth_type refl refl)

pub returns : goal.returns
returns c =
    subst (λ (x : Tm). IfOk c.choice_of.result (λ th. th ≡ plain c.args.defs.now (equal truth_type (choice c.args.first true_constant true_constant) x))) (same_choice c.args.first true_constant)
    (rw c.in_ok-truth.ensures at c.choice_of.ensures)
