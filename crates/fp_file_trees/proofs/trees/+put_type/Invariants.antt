use Rattle.std.proofs.Common.{◌+◌, ◌*◌}
use Rattle.fp_raw.specs.Raws.{arguments, raw_type_size, raw_types_size}
use Rattle.fp_file_trees.proofs.trees.+put_type.Given as goal

abbrev pub decreases-put_type : goal.decreases-put_type
decreases-put_type l = 2 * raw_type_size l.ty.now

abbrev pub decreases-put_types : goal.decreases-put_types
decreases-put_types l = 2 * raw_types_size (arguments l.types.now) + 1
