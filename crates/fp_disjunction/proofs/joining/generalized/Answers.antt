use Rattle.std.proofs.Common.{refl}
use Rattle.fp_disjunction.proofs.Joined.{over_plain}
use Rattle.fp_disjunction.proofs.joining.generalized.Goals as goal

pub eqt_known-requires : goal.eqt_known-requires
eqt_known-requires c = over_plain c.args.defs.now c.args.th.now c.args.th.now.concl c.requires

pub abstracted-requires : goal.abstracted-requires
abstracted-requires c = rw (c.in_ok-equation.ensures, c.requires) refl

pub returns : goal.returns
returns c = rw c.in_ok-equation.ensures at c.abstracted.ensures
