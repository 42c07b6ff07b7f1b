use Rattle.std.proofs.Common.{◌≡◌, ◌++◌, drop}
use Rattle.fp_outcome.specs.Shown.{AreShownParts}
use Rattle.fp_report.specs.Orders.{parts_after}
use Rattle.fp_report.proofs.order.push_parts_after.Given as goal

-- what is left goes behind the text, and can be printed
abbrev pub invariant-loop-part : goal.invariant-loop-part
invariant-loop-part l = (l.text.items ++ parts_after l.full (drop l.part-index l.parts) ≡ l.fn.text.items ++ parts_after l.full l.parts) × AreShownParts (drop l.part-index l.parts)
