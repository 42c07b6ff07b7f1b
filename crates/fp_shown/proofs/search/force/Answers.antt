use Rattle.std.proofs.Common.{◌≡◌, ℕ, length, None, rules, replicate, subst}
use Rattle.std.proofs.lemmas.List.{length-replicate, get_or-replicate}
use Rattle.fp_order.specs.Grid.{columns_of}
use Rattle.fp_shown.specs.Fillings.{IsForced, TellsShown}
use Rattle.fp_order.specs.Greedy.{IsLeft}
use Rattle.fp_shown.specs.Shown.{number_on}
use Rattle.fp_shown.specs.Known.{known_at, IsSure, IsStuck, IsMarked}
use Rattle.fp_shown.proofs.Forces.{forcing_start, forcing_step, fewer_left}
use Rattle.fp_shown.proofs.Inside.{inside_table, force_end}
use Rattle.fp_shown.proofs.search.force.Goals as goal

pub loop-column-init : goal.loop-column-init
loop-column-init c =
    let m = c.args.s.now in
    let all : c.in_ok-decided.decided.items ≡ replicate m.rows None = c.in_ok-decided.ensures.items_if_clones_equal (λ y k. search rules) in
    rw (c.new-columns.ensures.items, all) (forcing_start (known_at (number_on m.grid) c.args.known.now) m.columns m.rows (replicate m.rows None) (length-replicate m.rows None) (λ r h. get_or-replicate m.rows r None None h))

pub loop-column-smaller : goal.loop-column-smaller
loop-column-smaller c =
    let m = c.args.s.now in
    let K = known_at (number_on m.grid) c.args.known.now in
    let next : IsSure K m.columns (IsLeft c.loop-column.decided.items) c.in-Some.column =
    rw c.as_slice.ensures.value at c.in-Some.ensures in
    fewer_left K m.columns c.in-Some.column _ c.loop-column.decided.items c.mark.new.decided.items c.mark.ensures next

pub loop-column-preserved : goal.loop-column-preserved
loop-column-preserved c =
    let m = c.args.s.now in
    let K = known_at (number_on m.grid) c.args.known.now in
    let next : IsSure K m.columns (IsLeft c.loop-column.decided.items) c.in-Some.column =
    rw c.as_slice.ensures.value at c.in-Some.ensures in
    let at : c.len.result ≡ length c.loop-column.columns.items = search rules in
    let marked : IsMarked K c.in-Some.column (length c.loop-column.columns.items) c.loop-column.decided.items c.mark.new.decided.items =
    rw at at c.mark.ensures in
    rw c.in_ok-push.ensures.items (forcing_step K m.columns m.rows c.in-Some.column c.loop-column.columns.items c.loop-column.decided.items c.mark.new.decided.items c.loop-column.invariant next marked)

pub returns-clause-forced : goal.returns-clause-forced
returns-clause-forced c =
    let m = c.args.s.now in
    let K = known_at (number_on m.grid) c.args.known.now in
    let stuck : IsStuck K m.columns (IsLeft c.loop-column.decided.items) =
    rw c.as_slice.ensures.value at c.in_default.ensures in
    let made = force_end (number_on m.grid) m.columns m.rows c.args.known.now c.loop-column.columns.items c.loop-column.decided.items (inside_table m.grid m.columns m.rows c.args.known.now m.count m.row_count m.right c.requires) c.loop-column.invariant stuck in
    let P : ℕ → Type 0 = λ n. IsForced (number_on m.grid) n m.rows c.args.known.now c.loop-column.columns.items in
    let Q : ℕ → Type 0 = λ n. IsForced (number_on m.grid) (length (columns_of m.grid.functions)) n c.args.known.now c.loop-column.columns.items in
    subst Q m.row_count (subst P m.count made.0)

pub returns-clause-shown : goal.returns-clause-shown
returns-clause-shown c =
    let m = c.args.s.now in
    let K = known_at (number_on m.grid) c.args.known.now in
    let stuck : IsStuck K m.columns (IsLeft c.loop-column.decided.items) =
    rw c.as_slice.ensures.value at c.in_default.ensures in
    let made = force_end (number_on m.grid) m.columns m.rows c.args.known.now c.loop-column.columns.items c.loop-column.decided.items (inside_table m.grid m.columns m.rows c.args.known.now m.count m.row_count m.right c.requires) c.loop-column.invariant stuck in
    let P : ℕ → Type 0 = λ n. TellsShown (number_on m.grid) n m.rows c.args.known.now c.loop-column.decided.items in
    let Q : ℕ → Type 0 = λ n. TellsShown (number_on m.grid) (length (columns_of m.grid.functions)) n c.args.known.now c.loop-column.decided.items in
    subst Q m.row_count (subst P m.count made.1)
