use Rattle.fp_level.specs.Ranks.{candidate_entry}
use Rattle.fp_order.proofs.Greedy.{SeenBelow}
use Rattle.fp_level.proofs.greedy.fits.Given as goal

abbrev pub invariant-loop-row : goal.invariant-loop-row
invariant-loop-row l = SeenBelow (candidate_entry l.s.grid l.s.entries.items l.ranks) l.decided l.c l.row l.some_less
