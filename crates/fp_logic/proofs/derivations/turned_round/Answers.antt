use Rattle.std.proofs.Common.{refl}
use Rattle.fp_kernel.specs.Definitions.{whole}
use Rattle.fp_logic.proofs.derivations.turned_round.Goals as goal

pub assume_known-requires : goal.assume_known-requires
assume_known-requires c = rw c.in_ok-equation.ensures c.requires

pub sym_known-requires-clause-within : goal.sym_known-requires-clause-within
sym_known-requires-clause-within c = rw c.in_ok-itself.ensures whole

pub sym_known-requires-clause-equation : goal.sym_known-requires-clause-equation
sym_known-requires-clause-equation c = rw (c.in_ok-itself.ensures, c.in_ok-equation.ensures, c.in_ok-ty.ensures) refl

pub returns : goal.returns
returns c = rw (c.in_ok-itself.ensures, c.in_ok-equation.ensures, c.in_ok-ty.ensures) at c.sym_known.ensures
