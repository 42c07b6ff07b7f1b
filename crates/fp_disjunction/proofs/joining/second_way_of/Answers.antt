use Rattle.std.proofs.Common.{◌≡◌, refl, subst}
use Rattle.std.specs.Prelude.{IfOk}
use Rattle.fp_conclude.specs.Logic.{truth_type, true_constant, implication}
use Rattle.fp_kernel.specs.Definitions.{whole}
use Rattle.fp_kernel.specs.Theorems.{Theorem}
use Rattle.fp_forms.specs.Schemas.{q_variable}
use Rattle.fp_disjunction.specs.Schemas.{r_variable}
use Rattle.fp_logic.proofs.Concrete.{at_start}
use Rattle.fp_disjunction.proofs.Joined.{second_way_is}
use Rattle.fp_disjunction.proofs.joining.second_way_of.Goals as goal

pub reached-requires : goal.reached-requires
reached-requires c = c.requires.truth_case

pub discharged_twice-requires-clause-within : goal.discharged_twice-requires-clause-within
discharged_twice-requires-clause-within c = rw c.in_ok-reached.ensures whole

pub discharged_twice-requires-clause-first : goal.discharged_twice-requires-clause-first
discharged_twice-requires-clause-first c = rw c.requires.truth_case (at_start c.args.defs.now (implication true_constant r_variable) truth_type refl refl)

pub discharged_twice-requires-clause-second : goal.discharged_twice-requires-clause-second
discharged_twice-requires-clause-second c = rw c.requires.other_case (at_start c.args.defs.now (implication q_variable r_variable) truth_type refl refl)

pub returns : goal.returns
returns c =
    let is = second_way_is c.args.defs.now c.args.truth_case.now c.args.other_case.now c.in_ok-reached.reached c.requires.truth_case c.requires.other_case c.in_ok-reached.ensures in
    subst (λ (x : Theorem). IfOk c.discharged_twice.result (λ th. th ≡ x)) is c.discharged_twice.ensures
