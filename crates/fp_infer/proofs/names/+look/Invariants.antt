use Rattle.std.proofs.Common.{◌+◌, ◌*◌}
use Rattle.fp_raw.specs.Raws.{arguments, raw_type_size, raw_types_size}
use Rattle.fp_infer.proofs.names.+look.Given as goal

abbrev pub decreases-look_at_type : goal.decreases-look_at_type
decreases-look_at_type l = 2 * raw_type_size l.ty.now

abbrev pub decreases-look_at_types : goal.decreases-look_at_types
decreases-look_at_types l = 2 * raw_types_size (arguments l.types.now) + 1
