use Rattle.std.proofs.Common.{◌+◌, ◌*◌}
use Rattle.fp_raw.specs.Raws.{arguments, raw_type_size, raw_types_size}
use Rattle.fp_infer.proofs.written.+add_raw_type.Given as goal

abbrev pub decreases-add_raw_type : goal.decreases-add_raw_type
decreases-add_raw_type l = 2 * raw_type_size l.ty.now

abbrev pub decreases-add_raw_types : goal.decreases-add_raw_types
decreases-add_raw_types l = 2 * raw_types_size (arguments l.types.now) + 1
