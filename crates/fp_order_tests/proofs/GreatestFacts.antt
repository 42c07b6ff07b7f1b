-- The grid whose rows only the greatest value decides is a grid of six cells.
use Rattle.std.proofs.Common.{◌≡◌, ◌<◌, ℕ, zero, suc, length, refl, arith}
use Rattle.fp_order.specs.Grid.{caller, callee, cells_of, IsGrid}
use Rattle.fp_order_tests.specs.Greatest.{greatest_grid}

callers : (r : ℕ) → r < 3 → caller greatest_grid r < 2
callers zero l = omega arith
callers (suc zero) l = omega arith
callers (suc (suc zero)) l = omega arith
callers (suc (suc (suc r))) l = absurd (omega arith)

callees : (r : ℕ) → r < 3 → callee greatest_grid r < 2
callees zero l = omega arith
callees (suc zero) l = omega arith
callees (suc (suc zero)) l = omega arith
callees (suc (suc (suc r))) l = absurd (omega arith)

pub is_grid : IsGrid greatest_grid
is_grid = record { callers = callers; callees = callees; few = omega arith }

pub six : length (cells_of greatest_grid) ≡ 6
six = refl
