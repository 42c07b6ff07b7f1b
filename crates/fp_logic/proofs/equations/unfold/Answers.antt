use Rattle.std.proofs.Common.{refl, ap}
use Rattle.fp_term.specs.Terms.{Tm, app}
use Rattle.fp_kernel.specs.Definitions.{whole}
use Rattle.fp_conclude.specs.Shapes.{right}
use Rattle.fp_logic.proofs.equations.unfold.Goals as goal

pub mk_comb_known-requires : goal.mk_comb_known-requires
mk_comb_known-requires c = c.requires.0

pub reduced_right-requires-clause-over : goal.reduced_right-requires-clause-over
reduced_right-requires-clause-over c = rw c.in_ok-applied.ensures refl

pub reduced_right-requires-clause-equation : goal.reduced_right-requires-clause-equation
reduced_right-requires-clause-equation c = rw c.in_ok-applied.ensures refl

pub reduced_right-requires-clause-redex : goal.reduced_right-requires-clause-redex
reduced_right-requires-clause-redex c = rw c.in_ok-applied.ensures (ap (λ (f : Tm). app f (right c.args.own.now.concl)) c.requires.1)

pub trans_known-requires : goal.trans_known-requires
trans_known-requires c = rw (c.in_ok-step.ensures, c.in_ok-applied.ensures) (whole, whole, refl, refl)

pub returns : goal.returns
returns c = rw (c.in_ok-step.ensures, c.in_ok-applied.ensures) at c.trans_known.ensures
