use Rattle.std.proofs.Common.{rules, ◌≡◌, ◌+◌, length}
use Rattle.fp_order.specs.Greedy.{IsLeft, IsNext, NoneFits}
use Rattle.fp_order.proofs.Greedy.{fewer_left}
use Rattle.fp_level.specs.Ranks.{candidate_entry}
use Rattle.fp_level.proofs.Going.{going_start, going_step, going_end}
use Rattle.fp_level.proofs.greedy.best_among.Goals as goal

pub loop-c-init : goal.loop-c-init
loop-c-init c =
    let s = c.args.s.now in
    rw c.new-order.ensures.items (going_start (candidate_entry s.grid s.entries.items c.args.ranks.now) (length c.args.ranks.now) c.args.base c.args.decided.now.items)

pub loop-c-smaller : goal.loop-c-smaller
loop-c-smaller c =
    let s = c.args.s.now in
    let e = candidate_entry s.grid s.entries.items c.args.ranks.now in
    let next : IsNext e (length c.args.ranks.now) (IsLeft c.loop-c.decided.items) c.in-Some.c =
    rw c.as_slice.ensures.value at c.in-Some.ensures in
    fewer_left e (length c.args.ranks.now) c.in-Some.c _ c.loop-c.decided.items c.mark.new.decided.items c.mark.ensures next

pub loop-c-preserved : goal.loop-c-preserved
loop-c-preserved c =
    let s = c.args.s.now in
    let e = candidate_entry s.grid s.entries.items c.args.ranks.now in
    let next : IsNext e (length c.args.ranks.now) (IsLeft c.loop-c.decided.items) c.in-Some.c =
    rw c.as_slice.ensures.value at c.in-Some.ensures in
    let at : c.in-Ok.position ≡ c.args.base + length c.loop-c.order.items = search rules in
    rw c.in_ok-push.ensures.items (going_step e (length c.args.ranks.now) c.args.base c.in-Some.c c.in-Ok.position c.loop-c.order.items c.args.decided.now.items c.loop-c.decided.items c.mark.new.decided.items at c.loop-c.invariant next c.mark.ensures)

pub returns : goal.returns
returns c =
    let s = c.args.s.now in
    let e = candidate_entry s.grid s.entries.items c.args.ranks.now in
    let none : NoneFits e (length c.args.ranks.now) (IsLeft c.loop-c.decided.items) =
    rw c.as_slice.ensures.value at c.in_default.ensures in
    going_end e (length c.args.ranks.now) c.args.base c.loop-c.order.items c.args.decided.now.items c.loop-c.decided.items c.loop-c.invariant none
