use Rattle.fp_logic.proofs.unfolding.unfold_twice.Goals as goal

pub unfold_once-requires : goal.unfold_once-requires
unfold_once-requires c = c.requires

pub unfold-requires : goal.unfold-requires
unfold-requires c = rw (c.in_ok-own.ensures, c.in_ok-once.ensures) c.requires.2

pub returns : goal.returns
returns c = rw (c.in_ok-own.ensures, c.in_ok-once.ensures) at c.unfold.ensures
