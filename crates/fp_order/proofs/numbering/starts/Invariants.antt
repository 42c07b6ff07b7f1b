use Rattle.std.proofs.Common.{◌≡◌, ◌≤◌, ◌+◌, ℕ, length, get_or}
use Rattle.fp_order.specs.Numbers.{start}
use Rattle.fp_order.proofs.numbering.starts.Given as goal

abbrev pub invariant-loop-row : goal.invariant-loop-row
invariant-loop-row l = record {
  len : length l.starts.items ≡ l.row + 1;
  each : (r : ℕ) → r ≤ l.row → get_or l.starts.items r 0 ≡ start l.g r;
  last : l.end ≡ start l.g l.row;
}
