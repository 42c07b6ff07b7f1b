use Rattle.std.proofs.Common.{◌≡◌, vec_len}
use Rattle.fp_board_tests.proofs.ack.goals.Given as goal

abbrev pub invariant-loop-cell : goal.invariant-loop-cell
invariant-loop-cell l = vec_len l.goals ≡ l.cell
