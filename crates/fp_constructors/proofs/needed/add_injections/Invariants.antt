use Rattle.std.proofs.Common.{◌≡◌, ◌++◌, length}
use Rattle.std.specs.Prelude.{map}
use Rattle.fp_constructors.specs.Needed.{injections}
use Rattle.fp_constructors.specs.Shapes.{seen_shape}
use Rattle.fp_constructors.specs.Answers.{named}
use Rattle.fp_constructors.proofs.needed.add_injections.Given as goal

abbrev pub invariant-loop-shape : goal.invariant-loop-shape
invariant-loop-shape l = map named l.needs ++ injections l.whole (map seen_shape l.rest) ≡ map named l.initial.needs ++ injections l.whole (map seen_shape l.shapes)

abbrev pub decreases-loop-shape : goal.decreases-loop-shape
decreases-loop-shape l = length l.rest
