use Rattle.std.proofs.Common.{refl}
use Rattle.fp_conclude.specs.Logic.{truth_type}
use Rattle.fp_kernel.specs.Definitions.{whole}
use Rattle.fp_forms.specs.Lemmas.{equivalent}
use Rattle.fp_forms.specs.Schemas.{p_variable, q_variable}
use Rattle.fp_logic.proofs.Concrete.{at_start}
use Rattle.fp_logic.proofs.derivations.exchange_schema.Goals as goal

pub turned_round-requires : goal.turned_round-requires
turned_round-requires c = rw (c.in_ok-left.ensures, c.in_ok-right.ensures) (at_start c.args.defs.now (equivalent q_variable p_variable) truth_type refl refl)

pub turned_round-requires-2 : goal.turned_round-requires-2
turned_round-requires-2 c = rw (c.in_ok-left.ensures, c.in_ok-right.ensures) (at_start c.args.defs.now (equivalent p_variable q_variable) truth_type refl refl)

pub antisym_known-requires : goal.antisym_known-requires
antisym_known-requires c = rw (c.in_ok-first.ensures, c.in_ok-second.ensures) (whole, whole)

pub returns : goal.returns
returns c = rw (c.in_ok-first.ensures, c.in_ok-second.ensures, c.in_ok-left.ensures, c.in_ok-right.ensures) at c.antisym_known.ensures
