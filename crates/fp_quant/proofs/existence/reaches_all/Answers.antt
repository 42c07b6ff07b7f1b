use Rattle.std.proofs.Common.{refl}
use Rattle.fp_term.specs.Names.{truth}
use Rattle.fp_kernel.specs.Definitions.{whole}
use Rattle.fp_kernel.proofs.Growing.{from_start}
use Rattle.fp_quant.proofs.existence.reaches_all.Goals as goal

pub reaches-requires : goal.reaches-requires
reaches-requires c = c.requires

pub gen_all_known-requires-clause-within : goal.gen_all_known-requires-clause-within
gen_all_known-requires-clause-within c = rw c.in_ok-reaches.ensures whole

pub gen_all_known-requires-clause-known : goal.gen_all_known-requires-clause-known
gen_all_known-requires-clause-known c = rw c.in_ok-ty.ensures ((from_start c.args.defs.now).types truth 0 refl, tt)

pub gen_all_known-requires-clause-apart : goal.gen_all_known-requires-clause-apart
gen_all_known-requires-clause-apart c = rw (c.in_ok-reaches.ensures, c.in_ok-name.ensures) refl

pub returns : goal.returns
returns c = rw (c.in_ok-reaches.ensures, c.in_ok-name.ensures, c.in_ok-ty.ensures) at c.gen_all_known.ensures
