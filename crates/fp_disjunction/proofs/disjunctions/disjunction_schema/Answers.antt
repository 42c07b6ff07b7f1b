use Rattle.std.proofs.Common.{refl}
use Rattle.fp_conclude.specs.Logic.{truth_type, predicate_type}
use Rattle.fp_kernel.specs.Definitions.{whole}
use Rattle.fp_forms.specs.Schemas.{p_variable, q_variable}
use Rattle.fp_disjunction.specs.Schemas.{all_ways}
use Rattle.fp_logic.proofs.Concrete.{at_start}
use Rattle.fp_disjunction.proofs.disjunctions.disjunction_schema.Goals as goal

pub universal-requires : goal.universal-requires
universal-requires c =
    rw (c.argument_in-predicate.ensures, c.right.ensures, c.concl.ensures.value, c.in_ok-quantified.ensures) (at_start c.args.defs.now (all_ways p_variable q_variable) (predicate_type truth_type) refl refl)

pub trans_known-requires : goal.trans_known-requires
trans_known-requires c = rw (c.in_ok-universal.ensures, c.argument_in-predicate.ensures, c.right.ensures, c.concl.ensures.value, c.in_ok-quantified.ensures) (whole, whole, refl, refl)

pub returns : goal.returns
returns c = rw (c.in_ok-universal.ensures, c.argument_in-predicate.ensures, c.right.ensures, c.concl.ensures.value, c.in_ok-quantified.ensures) at c.trans_known.ensures
