use Rattle.std.proofs.Common.{◌≡◌, ◌<◌, ℕ}
use Rattle.fp_shown.specs.declared.state.CellState.TheVariants.{Claimed}
use Rattle.fp_shown.specs.Machine.{state_at}
use Rattle.fp_shown.proofs.machine.has_claim.Given as goal

abbrev pub invariant-loop-state : goal.invariant-loop-state
invariant-loop-state l = (j : ℕ) → j < l.state-index → state_at l.states j ≡ Claimed l.w → ⊥
