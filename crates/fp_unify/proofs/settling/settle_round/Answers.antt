use Rattle.fp_unify.proofs.Ordered.{going_settled, going_left, going_read}
use Rattle.fp_unify.proofs.settling.settle_round.Goals as goal
use Rattle.fp_unify.proofs.settling.settle_round.Goals.{then-not-settle_one+in_ok-push, else-not-settle_one}

pub loop-at-preserved : goal.loop-at-preserved
loop-at-preserved c =
    let g = going_read _ _ _ _ _ _ 0 _ c.loop-at-test.true c.loop-at.invariant in
    elim c.if-not-settle_one.branch [
      | then-not-settle_one+in_ok-push w ↦ rw w.rest-is (going_left _ _ _ _ _ _ _ _ c.requires.kept g _ w.in_ok-push.ensures.items (rw w.if-not-settle_one.true at c.settle_one.ensures))
      | else-not-settle_one w ↦ rw w.rest-is (going_settled _ _ _ _ _ _ _ _ c.requires.kept g (rw w.if-not-settle_one.false at c.settle_one.ensures))
    ]
