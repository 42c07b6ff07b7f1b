use Rattle.std.proofs.Common.{◌+◌, ◌*◌}
use Rattle.fp_raw.specs.Raws.{arguments, raw_type_size, raw_types_size}
use Rattle.fp_constrain.proofs.plain.+plain.Given as goal

abbrev pub decreases-plain_type : goal.decreases-plain_type
decreases-plain_type l = 2 * raw_type_size l.ty.now

abbrev pub decreases-plain_types : goal.decreases-plain_types
decreases-plain_types l = 2 * raw_types_size (arguments l.types.now) + 1
