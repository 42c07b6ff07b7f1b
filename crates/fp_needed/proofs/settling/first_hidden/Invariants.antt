use Rattle.std.proofs.Common.{◌≡◌, ◌<◌, ℕ, get_or, None}
use Rattle.fp_shown.specs.Shown.{IsShown}
use Rattle.fp_needed.proofs.settling.first_hidden.Given as goal

abbrev pub invariant-loop-cell : goal.invariant-loop-cell
invariant-loop-cell l = (k : ℕ) → k < l.cell → get_or l.known k None ≡ None → IsShown l.s.grid l.known k
