use Rattle.std.proofs.Common.{◌≡◌, ◌||◌, not}
use Rattle.fp_level.specs.Ranks.{each_below, has, meets, over_set, under_set}
use Rattle.fp_level.proofs.entries.all_meet.Given as goal

abbrev pub invariant-loop-over : goal.invariant-loop-over
invariant-loop-over l = l.all ≡ each_below (λ over. not (has (over_set l.extremum l.s.grid l.sets l.row) over) || meets l.extremum l.s.grid l.s.entries.items l.leq l.row (under_set l.extremum l.s.grid l.sets l.row) over) l.over
