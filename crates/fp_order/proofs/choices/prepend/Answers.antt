use Rattle.std.proofs.Common.{rules}
use Rattle.fp_order.specs.Grid.{prefixed}
use Rattle.fp_order.proofs.CutLists.{later_pushed, later_full, take_all}
use Rattle.fp_order.proofs.choices.prepend.Goals as goal
use Rattle.fp_order.proofs.choices.prepend.Goals.{then-len-limit+in_ok-choice+in_ok-push, else-len-limit}

pub loop-later-preserved : goal.loop-later-preserved
loop-later-preserved c =
    let rest = c.args.rest.now in
    let m = c.loop-number.number in
    let front = prefixed m rest in
    elim c.if-len-limit.branch [
      | then-len-limit+in_ok-choice+in_ok-push w ↦ rw (w.all-is, w.in_ok-push.ensures.items) (later_pushed c.args.limit m rest c.loop-later.later-index front c.later-item.result w.in_ok-choice.choice c.loop-later.all.items (search rules) (search rules) c.loop-later.invariant (search rules) w.in_ok-choice.ensures)
      | else-len-limit w ↦ rw w.all-is (later_full c.args.limit m rest c.loop-later.later-index front c.later-item.result c.loop-later.all.items (search rules) (search rules) c.loop-later.invariant (search rules))
    ]

pub loop-number-preserved : goal.loop-number-preserved
loop-number-preserved c =
    take_all c.args.limit c.loop-number.number c.args.rest.now c.loop-later.later-index c.loop-later.all.items (search rules) c.loop-later.invariant
