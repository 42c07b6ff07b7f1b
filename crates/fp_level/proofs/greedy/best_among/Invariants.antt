use Rattle.std.proofs.Common.{length}
use Rattle.fp_order.proofs.Greedy.{undecided}
use Rattle.fp_level.specs.Ranks.{candidate_entry}
use Rattle.fp_level.proofs.Going.{IsGoing}
use Rattle.fp_level.proofs.greedy.best_among.Given as goal

abbrev pub invariant-loop-c : goal.invariant-loop-c
invariant-loop-c l = IsGoing (candidate_entry l.s.grid l.s.entries.items l.ranks) (length l.ranks) l.base l.initial.decided.items l.decided.items l.order.items

abbrev pub decreases-loop-c : goal.decreases-loop-c
decreases-loop-c l = undecided l.decided.items
