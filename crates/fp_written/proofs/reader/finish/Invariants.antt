use Rattle.std.proofs.Common.{◌≡◌, vec_len}
use Rattle.fp_written.specs.Machine.{state, ended}
use Rattle.fp_written.specs.Views.{stack_of, terms_of, types_so}
use Rattle.fp_written.proofs.reader.finish.Given as goal

abbrev pub invariant-loop-symbol : goal.invariant-loop-symbol
invariant-loop-symbol l =
    ended (state (stack_of l.todo.items) (terms_of l.parts.terms.items) (types_so l.parts.types.items))
    ≡ ended (state (stack_of l.initial.todo.items) (terms_of l.initial.parts.terms.items) (types_so l.initial.parts.types.items))

abbrev pub decreases-loop-symbol : goal.decreases-loop-symbol
decreases-loop-symbol l = vec_len l.todo
