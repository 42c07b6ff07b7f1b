use Rattle.fp_shown.proofs.search.shown.Goals as goal

pub returns : goal.returns
returns c = rw (c.in_ok-s.ensures, c.as_slice.ensures.value) at c.cell_shown.ensures
