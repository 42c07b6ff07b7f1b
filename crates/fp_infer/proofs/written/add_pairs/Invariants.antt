use Rattle.std.proofs.Common.{◌≡◌, ◌++◌, drop}
use Rattle.fp_infer.specs.Names.{written_in_pairs}
use Rattle.fp_infer.proofs.written.add_pairs.Given as goal

abbrev pub invariant-loop-pair : goal.invariant-loop-pair
invariant-loop-pair l = l.names.items ++ written_in_pairs (drop l.pair-index l.pairs) ≡ l.initial.names.items ++ written_in_pairs l.pairs
