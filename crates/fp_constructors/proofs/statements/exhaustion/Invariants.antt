use Rattle.std.proofs.Common.{◌≡◌, take}
use Rattle.std.specs.Prelude.{map}
use Rattle.fp_constructors.specs.Needed.{is_some_value}
use Rattle.fp_constructors.specs.Shapes.{seen_shape}
use Rattle.fp_constructors.proofs.statements.exhaustion.Given as goal

abbrev pub invariant-loop-shape : goal.invariant-loop-shape
invariant-loop-shape l = l.parts ≡ map (is_some_value l.whole) (map seen_shape (take l.shape-index l.shapes))
