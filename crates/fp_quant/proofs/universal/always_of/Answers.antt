use Rattle.std.proofs.Common.{refl}
use Rattle.std.specs.Prelude.{codes}
use Rattle.fp_quant.proofs.Subjects.{subject_typed}
use Rattle.fp_quant.proofs.universal.always_of.Goals as goal

pub universal-requires : goal.universal-requires
universal-requires c = subject_typed (codes "all") c.args.defs.now c.args.a.now c.args.ty.now c.args.predicate.now c.requires.within c.concl-concl.ensures.derived c.requires.shape

pub convert-requires : goal.convert-requires
convert-requires c = rw (c.in_ok-meaning.ensures, c.requires.shape) (refl, c.requires.within, refl)

pub returns : goal.returns
returns c = rw c.in_ok-meaning.ensures at c.convert.ensures
