use Rattle.std.proofs.Common.{◌≡◌, ◌++◌, drop}
use Rattle.fp_constructors.specs.Naming.{lettered}
use Rattle.fp_constructors.proofs.naming.lettered.Given as goal

abbrev pub invariant-loop-name : goal.invariant-loop-name
invariant-loop-name l = l.pairs ++ lettered l.place (drop l.name-index l.names) ≡ lettered 0 l.names
