use Rattle.std.proofs.Common.{◌≡◌, ◌++◌, drop}
use Rattle.fp_report.specs.Texts.{commas_before}
use Rattle.fp_report.proofs.item.push_later.Given as goal

-- the names that are left go behind the text
abbrev pub invariant-loop-name : goal.invariant-loop-name
invariant-loop-name l = l.text.items ++ commas_before (drop l.name-index l.names) ≡ l.fn.text.items ++ commas_before l.names
