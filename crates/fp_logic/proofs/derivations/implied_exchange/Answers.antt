use Rattle.std.proofs.Common.{refl}
use Rattle.fp_conclude.specs.Logic.{truth_type, conjunction}
use Rattle.fp_forms.specs.Schemas.{p_variable, q_variable}
use Rattle.fp_logic.proofs.Concrete.{at_start}
use Rattle.fp_logic.proofs.derivations.implied_exchange.Goals as goal

pub exchange-requires-clause-first : goal.exchange-requires-clause-first
exchange-requires-clause-first c = rw c.in_ok-both.ensures (at_start c.args.defs.now (conjunction p_variable q_variable) truth_type refl refl)

pub exchange-requires-clause-second : goal.exchange-requires-clause-second
exchange-requires-clause-second c = rw c.in_ok-variable.ensures (at_start c.args.defs.now p_variable truth_type refl refl)

pub returns : goal.returns
returns c = rw (c.in_ok-both.ensures, c.in_ok-variable.ensures) at c.exchange.ensures
