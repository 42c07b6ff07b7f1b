use Rattle.std.proofs.Common.{◌≡◌}
use Rattle.fp_written.specs.Machine.{owed}
use Rattle.fp_written.specs.Views.{state_of, stack_of, Reached}
use Rattle.fp_written.proofs.reader.read.Given as goal

abbrev pub invariant-loop-at : goal.invariant-loop-at
invariant-loop-at l = Reached l.limits l.fn.kind l.tokens l.at (state_of l.reader) × (l.reader.owed ≡ owed (stack_of l.reader.todo.items))
