use Rattle.std.proofs.Common.{◌≡◌, length, None, rules, replicate}
use Rattle.std.proofs.lemmas.List.{length-replicate, get_or-replicate}
use Rattle.fp_order.specs.Matrix.{entry_of, RowOf}
use Rattle.fp_order.specs.Greedy.{IsLeft, IsNext, NoneFits, IsMarked}
use Rattle.fp_order.proofs.Laws.{best_complete}
use Rattle.fp_order.proofs.Greedy.{going_start, going_step, going_end, fewer_left}
use Rattle.fp_order.proofs.search.best_order.Goals as goal

pub loop-column-init : goal.loop-column-init
loop-column-init c =
    let m = c.args.m.now in
    let all : c.in_ok-decided.decided.items ≡ replicate m.rows None = c.in_ok-decided.ensures.items_if_clones_equal (λ y k. search rules) in
    rw (c.new-columns.ensures.items, all) (going_start (entry_of m) m.columns m.rows (replicate m.rows None) (length-replicate m.rows None) (λ r h. get_or-replicate m.rows r None None h))

pub loop-column-smaller : goal.loop-column-smaller
loop-column-smaller c =
    let m = c.args.m.now in
    let next : IsNext (entry_of m) m.columns (IsLeft c.loop-column.decided.items) c.in-Some.column =
    rw c.as_slice.ensures.value at c.in-Some.ensures in
    fewer_left (entry_of m) m.columns c.in-Some.column _ c.loop-column.decided.items c.mark.new.decided.items c.mark.ensures next

pub loop-column-preserved : goal.loop-column-preserved
loop-column-preserved c =
    let m = c.args.m.now in
    let next : IsNext (entry_of m) m.columns (IsLeft c.loop-column.decided.items) c.in-Some.column =
    rw c.as_slice.ensures.value at c.in-Some.ensures in
    let at : c.len.result ≡ length c.loop-column.columns.items = search rules in
    let marked : IsMarked (entry_of m) c.in-Some.column (length c.loop-column.columns.items) c.loop-column.decided.items c.mark.new.decided.items =
    rw at at c.mark.ensures in
    rw c.in_ok-push.ensures.items (going_step (entry_of m) m.columns m.rows c.in-Some.column c.loop-column.columns.items c.loop-column.decided.items c.mark.new.decided.items c.loop-column.invariant next marked)

abbrev columns_best : goal.returns-clause-best
columns_best c =
    let m = c.args.m.now in
    let none : NoneFits (entry_of m) m.columns (IsLeft c.loop-column.decided.items) =
    rw c.as_slice.ensures.value at c.in_default.ensures in
    rw c.from_vec.ensures (going_end (entry_of m) m.columns m.rows c.loop-column.columns.items c.loop-column.decided.items c.loop-column.invariant none)

pub returns-clause-best : goal.returns-clause-best
returns-clause-best c = columns_best c

pub returns-clause-complete : goal.returns-clause-complete
returns-clause-complete c = let m = c.args.m.now in best_complete (entry_of m) m.columns (RowOf m) c.from_vec.result (columns_best c)
