use Rattle.std.proofs.Common.{drop}
use Rattle.fp_constrain.specs.Clash.{CollectsAll}
use Rattle.fp_constrain.proofs.clash.collect_given.Given as goal

abbrev pub invariant-loop-pair : goal.invariant-loop-pair
invariant-loop-pair l = CollectsAll l.initial.names.items l.given (drop l.pair-index l.given) l.names.items
