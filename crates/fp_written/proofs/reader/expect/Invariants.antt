use Rattle.std.proofs.Common.{◌≡◌, ◌++◌, map, vec_len}
use Rattle.fp_written.specs.Views.{symbol_of, stack_of}
use Rattle.fp_written.proofs.reader.expect.Given as goal

abbrev pub invariant-loop-symbol : goal.invariant-loop-symbol
invariant-loop-symbol l = map symbol_of l.symbols.items ++ stack_of l.todo.items ≡ map symbol_of l.initial.symbols.items ++ stack_of l.initial.todo.items

abbrev pub decreases-loop-symbol : goal.decreases-loop-symbol
decreases-loop-symbol l = vec_len l.symbols
