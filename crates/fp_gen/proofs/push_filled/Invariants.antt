use Rattle.std.proofs.Common.{◌≡◌, ◌++◌, drop}
use Rattle.fp_gen.specs.Generated.{filled}
use Rattle.fp_gen.proofs.push_filled.Given as goal

-- the bytes that are left go behind the text
abbrev pub invariant-loop-byte : goal.invariant-loop-byte
invariant-loop-byte l = l.text.items ++ filled l.name (drop l.byte-index l.template) ≡ l.fn.text.items ++ filled l.name l.template
