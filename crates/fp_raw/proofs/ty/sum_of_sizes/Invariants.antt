use Rattle.std.proofs.Common.{◌≡◌, ◌≤◌, ◌+◌, drop}
use Rattle.fp_raw.specs.Raws.{arguments, raw_types_size}
use Rattle.fp_raw.proofs.ty.sum_of_sizes.Given as goal

abbrev pub invariant-loop-ty : goal.invariant-loop-ty
invariant-loop-ty l = (l.sum + raw_types_size (arguments (drop l.ty-index l.types)) ≡ raw_types_size (arguments l.types)) × (l.sum ≤ 67108864)
