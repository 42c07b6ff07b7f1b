use Rattle.std.proofs.Common.{◌<◌, ℕ}
use Rattle.std.specs.Prelude.{slice_index_or}
use Rattle.fp_unify.specs.Naming.{Within}
use Rattle.fp_infer.proofs.elaborating.first_beyond.Given as goal

abbrev pub invariant-loop-number : goal.invariant-loop-number
invariant-loop-number l = (j : ℕ) → j < l.number → Within l.cells (slice_index_or l.seen j 0) l.room
