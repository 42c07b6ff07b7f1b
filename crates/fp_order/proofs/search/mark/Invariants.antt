use Rattle.std.proofs.Common.{◌≡◌, ◌<◌, ◌≤◌, ℕ, length, get_or, None}
use Rattle.fp_order.specs.Matrix.{entry_of}
use Rattle.fp_order.specs.Greedy.{marked}
use Rattle.fp_order.proofs.search.mark.Given as goal

abbrev pub invariant-loop-row : goal.invariant-loop-row
invariant-loop-row l = record {
  done : (r : ℕ) → r < l.row → get_or l.decided.items r None ≡ marked (entry_of l.m l.column r) l.position (get_or l.initial.decided.items r None);
  len : length l.decided.items ≡ length l.initial.decided.items;
  rest : (r : ℕ) → l.row ≤ r → get_or l.decided.items r None ≡ get_or l.initial.decided.items r None;
}
