-- How large a form is, by which its printing ends.
use Rattle.std.specs.Prelude.{ℕ, ◌+◌}
use Rattle.fp_print.specs.Shapes.{Shape, named, numbered, bound_by, joined_by, negated, chosen, paired, applied_to}

abbrev pub shape_size : Shape → ℕ
shape_size (named a) = 1
shape_size (numbered n) = 1
shape_size (bound_by binder x) = shape_size x + 1
shape_size (joined_by symbol x y) = shape_size x + shape_size y + 1
shape_size (negated x) = shape_size x + 1
shape_size (chosen x y z) = shape_size x + shape_size y + shape_size z + 1
shape_size (paired x y) = shape_size x + shape_size y + 1
shape_size (applied_to f x) = shape_size f + shape_size x + 1
