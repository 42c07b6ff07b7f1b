-- Constructors as the program holds them.
use Rattle.fp_constructors.specs.Needed.{Shape}
use Rattle.fp_constructors.specs.declared.shape.Shape.{Shape as Held}

abbrev pub seen_shape : Held → Shape
seen_shape held = (held.con, held.args)
