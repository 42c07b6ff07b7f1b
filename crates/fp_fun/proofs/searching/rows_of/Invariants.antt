use Rattle.fp_fun.specs.Grids.{AreRowsBelow}
use Rattle.fp_fun.proofs.searching.rows_of.Given as goal

abbrev pub invariant-loop-site : goal.invariant-loop-site
invariant-loop-site l = AreRowsBelow l.count l.rows
