use Rattle.std.proofs.Common.{◌≡◌, ◌&&◌}
use Rattle.fp_level.specs.Ranks.{some_below, has, is_good, entry_at, cell_of}
use Rattle.fp_level.proofs.entries.meets.Given as goal

abbrev pub invariant-loop-under : goal.invariant-loop-under
invariant-loop-under l = l.met ≡ some_below (λ under. has l.set under && is_good l.leq (entry_at l.s.grid l.s.entries.items (cell_of l.extremum l.row l.over under))) l.under
