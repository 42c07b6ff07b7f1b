use Rattle.std.proofs.Common.{◌≤◌, length, arith}
use Rattle.fp_fun.proofs.Rows.{is_grid}
use Rattle.fp_fun.proofs.searching.grid_of.Goals as goal

pub returns : goal.returns
returns c =
    let below = c.in_ok-rows.ensures in
    let few : length c.in_ok-rows.rows ≤ 4294967295 = rw c.as_slice-2.ensures at c.if-as_slice-gt4294967295.false in
    is_grid (record { functions = c.in_ok-functions.functions; rows = c.in_ok-rows.rows }) (rw c.as_slice.ensures at below) (omega (arith, few))
