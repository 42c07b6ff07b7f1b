use Rattle.std.proofs.Common.{◌≡◌, ◌≤◌, drop}
use Rattle.fp_syntax.specs.Words.{read_on}
use Rattle.fp_syntax.proofs.classify.number_of.Given as goal

abbrev pub invariant-loop-byte : goal.invariant-loop-byte
invariant-loop-byte l = (read_on l.value (drop l.byte-index l.digits) ≡ read_on 0 l.digits) × (l.value ≤ 4294967295)
