use Rattle.std.proofs.Common.{◌≡◌, take}
use Rattle.std.specs.Prelude.{map}
use Rattle.fp_constructors.specs.Needed.{shape_of}
use Rattle.fp_constructors.specs.Shapes.{seen_shape}
use Rattle.fp_constructors.proofs.shape.shapes_of.Given as goal

abbrev pub invariant-loop-con : goal.invariant-loop-con
invariant-loop-con l = map seen_shape l.shapes ≡ map (shape_of l.signature l.name) (take l.con-index l.cons)
