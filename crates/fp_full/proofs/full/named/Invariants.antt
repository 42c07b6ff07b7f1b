use Rattle.std.proofs.Common.{◌≡◌, map, take}
use Rattle.fp_full.specs.Views.{entries_of, pair_of}
use Rattle.fp_full.proofs.full.named.Given as goal

abbrev pub invariant-loop-definition : goal.invariant-loop-definition
invariant-loop-definition l = l.pairs.items ≡ map pair_of (entries_of (take l.definition-index l.definitions))
