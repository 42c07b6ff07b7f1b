use Rattle.std.proofs.Common.{refl}
use Rattle.fp_kernel.specs.Definitions.{whole}
use Rattle.fp_logic.proofs.derivations.untrue_schema.Goals as goal

pub sym_known-requires-clause-within : goal.sym_known-requires-clause-within
sym_known-requires-clause-within c = rw c.in_ok-truthful.ensures whole

pub sym_known-requires-clause-equation : goal.sym_known-requires-clause-equation
sym_known-requires-clause-equation c = rw (c.in_ok-truthful.ensures, c.in_ok-ty.ensures, c.in_ok-variable.ensures) refl

pub returns : goal.returns
returns c = rw (c.in_ok-truthful.ensures, c.in_ok-ty.ensures, c.in_ok-variable.ensures) at c.sym_known.ensures
