use Rattle.fp_logic.proofs.unfolding.unfold_once.Goals as goal

pub unfold-requires : goal.unfold-requires
unfold-requires c = rw (c.in_ok-own.ensures, c.requires.0) c.requires.1

pub returns : goal.returns
returns c = rw (c.in_ok-own.ensures, c.requires.0) at c.unfold.ensures
