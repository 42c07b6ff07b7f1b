use Rattle.std.proofs.Common.{◌≡◌, ◌++◌, drop}
use Rattle.fp_report.specs.Items.{AreShown, item_lines}
use Rattle.fp_command.proofs.report.push_items.Given as goal

-- the lines that are left go behind the text, and can be printed
abbrev pub invariant-loop-item : goal.invariant-loop-item
invariant-loop-item l = (l.text.items ++ item_lines l.full (drop l.item-index l.items) ≡ l.fn.text.items ++ item_lines l.full l.items) × AreShown (drop l.item-index l.items)
