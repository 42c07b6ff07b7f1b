-- The grid of Ackermann's function is a grid of twelve cells.
use Rattle.std.proofs.Common.{◌≡◌, ◌<◌, ℕ, zero, suc, length, refl, arith}
use Rattle.fp_order.specs.Grid.{caller, callee, cells_of, IsGrid}
use Rattle.fp_board_tests.specs.Ack.{ack_grid}

callers : (r : ℕ) → r < 3 → caller ack_grid r < 1
callers zero l = omega arith
callers (suc zero) l = omega arith
callers (suc (suc zero)) l = omega arith
callers (suc (suc (suc r))) l = absurd (omega arith)

callees : (r : ℕ) → r < 3 → callee ack_grid r < 1
callees zero l = omega arith
callees (suc zero) l = omega arith
callees (suc (suc zero)) l = omega arith
callees (suc (suc (suc r))) l = absurd (omega arith)

pub is_grid : IsGrid ack_grid
is_grid = record { callers = callers; callees = callees; few = omega arith }

pub twelve : length (cells_of ack_grid) ≡ 12
twelve = refl
