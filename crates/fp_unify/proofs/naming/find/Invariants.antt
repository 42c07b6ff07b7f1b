use Rattle.std.proofs.Common.{◌≡◌, drop}
use Rattle.fp_unify.specs.Naming.{name_of}
use Rattle.fp_unify.proofs.naming.find.Given as goal

abbrev pub invariant-loop-pair : goal.invariant-loop-pair
invariant-loop-pair l = name_of l.number (drop l.pair-index l.pairs) ≡ name_of l.number l.pairs
