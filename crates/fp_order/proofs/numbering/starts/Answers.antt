use Rattle.std.proofs.Common.{rules, ◌≡◌, ◌+◌, ◌*◌, ◌∙◌, ap, sym, add-one}
use Rattle.fp_order.specs.Grid.{sources, targets}
use Rattle.fp_order.specs.Numbers.{start}
use Rattle.fp_order.proofs.Places.{starts_more}
use Rattle.fp_order.proofs.numbering.starts.Goals as goal

pub loop-row-preserved : goal.loop-row-preserved
loop-row-preserved c =
    let g = c.args.g.now in
    let row = c.loop-row.row in
    let end : c.in_ok-end.end ≡ start g row + sources g row * targets g row =
    rw (c.sources.ensures, c.targets.ensures, c.loop-row.invariant.last) at c.in_ok-end.ensures in
    let next : c.in_ok-end.end ≡ start g (row + 1) = end ∙ ap (start g) (sym (add-one row)) in
    rw c.in_ok-push-2.ensures.items (record {
      len = search rules;
      each = starts_more g c.loop-row.starts.items row c.in_ok-end.end c.loop-row.invariant.len c.loop-row.invariant.each next;
      last = next;
    })
