use Rattle.std.proofs.Common.{refl}
use Rattle.fp_kernel.specs.Definitions.{whole}
use Rattle.fp_quant.proofs.existence.choice.Goals as goal

pub gen_all_known-requires-clause-within : goal.gen_all_known-requires-clause-within
gen_all_known-requires-clause-within c = rw c.in_ok-selection.ensures whole

pub gen_all_known-requires-clause-known : goal.gen_all_known-requires-clause-known
gen_all_known-requires-clause-known c = rw c.in_ok-ty.ensures tt

pub gen_all_known-requires-clause-apart : goal.gen_all_known-requires-clause-apart
gen_all_known-requires-clause-apart c = rw c.in_ok-selection.ensures refl

pub returns : goal.returns
returns c = rw (c.in_ok-selection.ensures, c.in_ok-name.ensures, c.in_ok-ty.ensures) at c.gen_all_known.ensures
