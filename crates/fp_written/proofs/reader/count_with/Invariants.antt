use Rattle.std.proofs.Common.{◌≡◌, ◌+◌, map, drop}
use Rattle.fp_written.specs.Views.{symbol_of}
use Rattle.fp_written.specs.Machine.{owed}
use Rattle.fp_written.proofs.reader.count_with.Given as goal

abbrev pub invariant-loop-symbol : goal.invariant-loop-symbol
invariant-loop-symbol l = l.count + owed (map symbol_of (drop l.symbol-index l.symbols)) ≡ l.words + owed (map symbol_of l.symbols)
