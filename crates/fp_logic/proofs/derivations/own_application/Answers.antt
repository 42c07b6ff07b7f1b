use Rattle.std.proofs.Common.{refl}
use Rattle.fp_conclude.specs.Logic.{truth_type, predicate_type, binary_type, equal, true_constant}
use Rattle.fp_forms.specs.Schemas.{applying}
use Rattle.fp_kernel.specs.Theorems.{plain}
use Rattle.fp_logic.proofs.Concrete.{at_start}
use Rattle.fp_logic.proofs.Given.{known_typed, at_known}
use Rattle.fp_logic.proofs.derivations.own_application.Goals as goal

pub refl_known-requires : goal.refl_known-requires
refl_known-requires c =
    let t = applying true_constant true_constant in
    known_typed c.args.defs.now c.in_ok-term.term t (predicate_type (binary_type truth_type truth_type)) c.in_ok-term.ensures (at_start c.args.defs.now t (predicate_type (binary_type truth_type truth_type)) refl refl)

pub returns : goal.returns
returns c =
    at_known c.refl_known.result (λ t s. plain c.args.defs.now (equal s t t)) c.in_ok-term.term (applying true_constant true_constant) (predicate_type (binary_type truth_type truth_type)) c.in_ok-term.ensures refl c.refl_known.ensures
