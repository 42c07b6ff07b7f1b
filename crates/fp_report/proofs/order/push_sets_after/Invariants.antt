use Rattle.std.proofs.Common.{◌≡◌, ◌++◌, drop}
use Rattle.fp_outcome.specs.Shown.{ListsHaveOnly}
use Rattle.fp_report.specs.Orders.{sets_after}
use Rattle.fp_report.proofs.order.push_sets_after.Given as goal

-- what is left goes behind the text, and can be printed
abbrev pub invariant-loop-set : goal.invariant-loop-set
invariant-loop-set l = (l.text.items ++ sets_after l.full (drop l.set-index l.sets) ≡ l.fn.text.items ++ sets_after l.full l.sets) × ListsHaveOnly (drop l.set-index l.sets)
