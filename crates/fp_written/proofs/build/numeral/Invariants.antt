use Rattle.std.proofs.Common.{◌≡◌}
use Rattle.fp_written.specs.Trees.{numeral_of}
use Rattle.fp_written.proofs.build.numeral.Given as goal

abbrev pub invariant-loop-count : goal.invariant-loop-count
invariant-loop-count l = l.term ≡ numeral_of l.count l.at
