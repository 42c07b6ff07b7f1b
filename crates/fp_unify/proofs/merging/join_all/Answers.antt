use Rattle.fp_unify.proofs.Merged.{reach_inside, reach_on, reach_apart}
use Rattle.fp_unify.proofs.merging.join_all.Goals as goal

pub join_pair-requires-clause-left_inside : goal.join_pair-requires-clause-left_inside
join_pair-requires-clause-left_inside c = (reach_inside _ _ _ _ _ _ (rw c.in-Some.ensures.items at c.loop-pair.invariant)).0

pub join_pair-requires-clause-right_inside : goal.join_pair-requires-clause-right_inside
join_pair-requires-clause-right_inside c = (reach_inside _ _ _ _ _ _ (rw c.in-Some.ensures.items at c.loop-pair.invariant)).1

pub returns-then-not-branch : goal.returns-then-not-branch
returns-then-not-branch c = reach_apart _ _ _ _ _ _ (rw c.in-Some.ensures.items at c.loop-pair.invariant) (rw c.if-not-branch.true at c.in_ok-join_pair.ensures)

pub loop-pair-preserved : goal.loop-pair-preserved
loop-pair-preserved c = reach_on _ _ _ _ _ _ (rw c.in-Some.ensures.items at c.loop-pair.invariant) _ _ (rw c.if-not-branch.false at c.in_ok-join_pair.ensures)
