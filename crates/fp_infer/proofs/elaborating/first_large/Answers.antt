use Rattle.fp_infer.proofs.Whole.{large}
use Rattle.fp_infer.proofs.elaborating.first_large.Goals as goal

pub returns-in-Some : goal.returns-in-Some
returns-in-Some c =
    (c.in-Some.number, large _ _ _ _ _ _ _ _ _ c.requires.types.poses c.requires.types.best c.requires.sound c.requires.right _ (rw (c.as_slice.ensures.value, c.as_slice-2.ensures.value) at c.in-Some.ensures), c.place_of.ensures)
