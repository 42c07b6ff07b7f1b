use Rattle.std.proofs.Common.{◌≡◌, ◌<◌, ℕ, get_or}
use Rattle.fp_order.specs.declared.entry.Entry.TheVariants.{Leq}
use Rattle.fp_order.specs.Matrix.{entry_of}
use Rattle.fp_order.proofs.search.decides.Given as goal

abbrev pub invariant-loop-position : goal.invariant-loop-position
invariant-loop-position l = (j : ℕ) → j < l.position → entry_of l.m (get_or l.columns j 0) l.row ≡ Leq
