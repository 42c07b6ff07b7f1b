use Rattle.std.proofs.Common.{◌≡◌, ◌++◌, drop}
use Rattle.fp_report.specs.Orders.{after_each}
use Rattle.fp_print.specs.Numbers.{AllHaveOnly}
use Rattle.fp_report.proofs.order.push_after.Given as goal

-- what is left goes behind the text, and can be printed
abbrev pub invariant-loop-term : goal.invariant-loop-term
invariant-loop-term l = (l.text.items ++ after_each l.full l.separator (drop l.term-index l.terms) ≡ l.fn.text.items ++ after_each l.full l.separator l.terms) × AllHaveOnly 0 (drop l.term-index l.terms)
