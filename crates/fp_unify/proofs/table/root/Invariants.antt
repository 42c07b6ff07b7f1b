use Rattle.std.proofs.Common.{◌≡◌, ℕ, ◌≤◌}
use Rattle.fp_term.specs.Types.{Typ}
use Rattle.fp_unify.specs.Cells.{Fits}
use Rattle.fp_unify.proofs.table.root.Given as goal

abbrev pub invariant-loop-current : goal.invariant-loop-current
invariant-loop-current l = (l.current ≤ l.at) × ((v : ℕ → Typ) → Fits v l.cells → v l.at ≡ v l.current)

abbrev pub decreases-loop-current : goal.decreases-loop-current
decreases-loop-current l = l.current
