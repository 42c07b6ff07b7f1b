use Rattle.std.proofs.Common.{◌≡◌, length}
use Rattle.fp_term.specs.Types.{none}
use Rattle.fp_unify.specs.Naming.{listed}
use Rattle.fp_unify.proofs.naming.types_of.Given as goal

abbrev pub invariant-loop-ty : goal.invariant-loop-ty
invariant-loop-ty l = listed l.types.items l.all ≡ listed l.fn.types.items none

abbrev pub decreases-loop-ty : goal.decreases-loop-ty
decreases-loop-ty l = length l.types.items
