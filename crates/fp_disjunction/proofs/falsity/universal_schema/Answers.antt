use Rattle.fp_kernel.specs.Definitions.{whole}
use Rattle.fp_disjunction.proofs.False.{alpha_known}
use Rattle.fp_disjunction.proofs.falsity.universal_schema.Goals as goal

pub inst_ty_known-requires : goal.inst_ty_known-requires
inst_ty_known-requires c = rw (c.in_ok-meaning.ensures, c.in_ok-truth_for_alpha.ensures) (whole, alpha_known c.args.defs.now)

pub returns : goal.returns
returns c = rw (c.in_ok-meaning.ensures, c.in_ok-truth_for_alpha.ensures) at c.inst_ty_known.ensures
