use Rattle.std.proofs.Common.{◌≡◌, vec_len}
use Rattle.fp_written.specs.Machine.{step, owed}
use Rattle.fp_written.specs.Views.{stack_of, terms_of, types_so}
use Rattle.fp_written.proofs.reader.after_word.Given as goal

abbrev pub invariant-loop-symbol : goal.invariant-loop-symbol
invariant-loop-symbol l =
    (step l.limits.depth l.token (stack_of l.todo.items) (terms_of l.parts.terms.items) (types_so l.parts.types.items)
    ≡ step l.limits.depth l.token (stack_of l.initial.todo.items) (terms_of l.initial.parts.terms.items) (types_so l.initial.parts.types.items)) × (l.owed ≡ owed (stack_of l.todo.items))

abbrev pub decreases-loop-symbol : goal.decreases-loop-symbol
decreases-loop-symbol l = vec_len l.todo
