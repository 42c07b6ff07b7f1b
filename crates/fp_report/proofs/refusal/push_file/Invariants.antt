use Rattle.std.proofs.Common.{◌≡◌, ◌++◌, drop}
use Rattle.fp_report.specs.Reasons.{shown_file}
use Rattle.fp_report.proofs.refusal.push_file.Given as goal

-- the bytes that are left go behind the text
abbrev pub invariant-loop-byte : goal.invariant-loop-byte
invariant-loop-byte l = l.text.items ++ shown_file (drop l.byte-index l.name) ≡ l.fn.text.items ++ shown_file l.name
