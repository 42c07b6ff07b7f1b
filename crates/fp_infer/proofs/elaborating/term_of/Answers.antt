use Rattle.std.proofs.Common.{arith}
use Rattle.fp_infer.proofs.Whole.{ready, whole_arrows, elaborated_at}
use Rattle.fp_infer.proofs.elaborating.term_of.Goals as goal

pub build-requires-clause-ready : goal.build-requires-clause-ready
build-requires-clause-ready c =
    rw (c.as_slice.ensures.value, c.as_slice-2.ensures.value, c.as_slice-3.ensures.value, c.in_ok-written.ensures)
    (ready _ _ _ _ _ _ _ _ _ c.requires.types.poses c.requires.types.best c.requires.sound c.requires.right c.requires.small)

pub build-requires-clause-arrows : goal.build-requires-clause-arrows
build-requires-clause-arrows c = rw (c.as_slice.ensures.value, c.as_slice-2.ensures.value) (whole_arrows _ _ _ _ _ _ _ _ _ c.requires.types.poses c.requires.types.best)

pub returns : goal.returns
returns c =
    elaborated_at _ _ _ _ _ _ _ _ _ c.requires.types.poses c.requires.types.best c.requires.sound c.requires.right _ _ _ _ _ _ _ _ (omega arith) c.as_slice.ensures.value c.as_slice-2.ensures.value
    c.as_slice-3.ensures.value c.in_ok-written.ensures c.new.ensures.items c.in_ok-term.ensures.namer c.in_ok-term.ensures.builds
