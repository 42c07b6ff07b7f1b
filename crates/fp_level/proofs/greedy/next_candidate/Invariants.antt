use Rattle.fp_order.specs.Greedy.{IsLeft, NoneFits}
use Rattle.fp_level.specs.Ranks.{candidate_entry}
use Rattle.fp_level.proofs.greedy.next_candidate.Given as goal

abbrev pub invariant-loop-c : goal.invariant-loop-c
invariant-loop-c l = NoneFits (candidate_entry l.s.grid l.s.entries.items l.ranks) l.c (IsLeft l.decided)
