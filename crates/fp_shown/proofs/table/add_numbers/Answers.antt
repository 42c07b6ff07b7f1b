use Rattle.std.proofs.Common.{◌≡◌, ◌∙◌, ap, sym, append-nil}
use Rattle.fp_order.specs.Grid.{cell_on}
use Rattle.fp_order.specs.Numbers.{number_of}
use Rattle.fp_shown.proofs.Flat.{numbers_more}
use Rattle.fp_shown.proofs.table.add_numbers.Goals as goal

pub loop-row-init : goal.loop-row-init
loop-row-init c = sym (append-nil c.args.numbers.now.items)

pub loop-row-preserved : goal.loop-row-preserved
loop-row-preserved c =
    let g = c.args.g.now in
    let value : c.number.result ≡ number_of g (cell_on g c.args.column.now c.loop-row.row) = c.number.ensures.value ∙ ap (number_of g) c.cell_on.ensures.value in
    numbers_more (λ r. number_of g (cell_on g c.args.column.now r)) c.loop-row.row c.number.result c.args.numbers.now.items c.loop-row.numbers.items _ c.loop-row.invariant c.in_ok-push.ensures.items value
