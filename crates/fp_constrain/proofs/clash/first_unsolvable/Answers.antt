use Rattle.fp_constrain.proofs.Clashing.{solvable_none, unsolvable_some}
use Rattle.fp_constrain.proofs.clash.first_unsolvable.Goals as goal

pub loop-high-init : goal.loop-high-init
loop-high-init c = record { order = unsolvable_some _ _ c.requires.unsolvable; at = record { before = solvable_none _; never = c.requires.unsolvable.never } }
