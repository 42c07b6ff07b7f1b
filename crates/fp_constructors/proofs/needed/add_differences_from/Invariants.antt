use Rattle.std.proofs.Common.{◌≡◌, ◌++◌, length}
use Rattle.std.specs.Prelude.{map}
use Rattle.fp_constructors.specs.Needed.{differences_from}
use Rattle.fp_constructors.specs.Shapes.{seen_shape}
use Rattle.fp_constructors.specs.Answers.{named}
use Rattle.fp_constructors.proofs.needed.add_differences_from.Given as goal

abbrev pub invariant-loop-other : goal.invariant-loop-other
invariant-loop-other l =
    map named l.needs ++ differences_from l.whole (seen_shape l.shape) (map seen_shape l.rest)
    ≡ map named l.initial.needs ++ differences_from l.whole (seen_shape l.shape) (map seen_shape l.others)

abbrev pub decreases-loop-other : goal.decreases-loop-other
decreases-loop-other l = length l.rest
