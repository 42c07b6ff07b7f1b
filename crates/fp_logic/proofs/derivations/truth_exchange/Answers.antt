use Rattle.std.proofs.Common.{refl}
use Rattle.fp_conclude.specs.Logic.{truth_type, true_constant}
use Rattle.fp_forms.specs.Schemas.{p_variable}
use Rattle.fp_logic.proofs.Concrete.{at_start}
use Rattle.fp_logic.proofs.derivations.truth_exchange.Goals as goal

pub exchange-requires-clause-first : goal.exchange-requires-clause-first
exchange-requires-clause-first c = rw c.in_ok-truth.ensures (at_start c.args.defs.now true_constant truth_type refl refl)

pub exchange-requires-clause-second : goal.exchange-requires-clause-second
exchange-requires-clause-second c = rw c.in_ok-variable.ensures (at_start c.args.defs.now p_variable truth_type refl refl)

pub returns : goal.returns
returns c = rw (c.in_ok-truth.ensures, c.in_ok-variable.ensures) at c.exchange.ensures
