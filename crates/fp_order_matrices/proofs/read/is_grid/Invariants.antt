use Rattle.std.proofs.Common.{◌≡◌, ◌<◌, length, ℕ}
use Rattle.fp_order.specs.Grid.{caller, callee}
use Rattle.fp_order_matrices.proofs.read.is_grid.Given as goal

abbrev pub invariant-loop-row : goal.invariant-loop-row
invariant-loop-row l = record {
  callers : (r : ℕ) → r < l.row-index → caller l.grid r < length l.grid.functions;
  callees : (r : ℕ) → r < l.row-index → callee l.grid r < length l.grid.functions;
}
