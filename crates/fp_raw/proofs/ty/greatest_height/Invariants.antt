use Rattle.std.proofs.Common.{◌≡◌, ◌≤◌, max, drop}
use Rattle.fp_raw.specs.Raws.{arguments, raw_types_height}
use Rattle.fp_raw.proofs.ty.greatest_height.Given as goal

abbrev pub invariant-loop-ty : goal.invariant-loop-ty
invariant-loop-ty l = (max l.height (raw_types_height (arguments (drop l.ty-index l.types))) ≡ raw_types_height (arguments l.types)) × (l.height ≤ 1000)
