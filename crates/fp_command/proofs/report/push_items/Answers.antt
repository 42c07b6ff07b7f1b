use Rattle.std.proofs.Common.{◌++◌}
use Rattle.fp_report.specs.Items.{item_lines}
use Rattle.fp_command.proofs.Listing.{shown_at, shown_next, lines_next, lines_all}
use Rattle.fp_command.proofs.report.push_items.Goals as goal

pub push_item-requires : goal.push_item-requires
push_item-requires c = shown_at c.args.items.now c.loop-item.item-index c.item-item.result c.loop-item-test.true c.item-item.is c.loop-item.invariant.1

pub loop-item-preserved : goal.loop-item-preserved
loop-item-preserved c =
    let items = c.args.items.now in
    let i = c.loop-item.item-index in (
      lines_next c.args.full c.loop-item.text.items c.push_item.new.text.items (c.args.text.now.items ++ item_lines c.args.full items) items i c.item-item.result c.loop-item-test.true c.item-item.is
          c.in_ok-push_item.ensures c.loop-item.invariant.0,
      shown_next items i c.loop-item-test.true c.loop-item.invariant.1,
    )

pub returns : goal.returns
returns c =
    lines_all c.args.full c.loop-item.text.items (c.args.text.now.items ++ item_lines c.args.full c.args.items.now) c.args.items.now c.loop-item.item-index c.loop-item-test.false c.loop-item.invariant.0
