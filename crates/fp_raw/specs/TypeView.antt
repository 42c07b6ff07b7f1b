-- One level of a written type, as the program holds it.
use Rattle.std.specs.Prelude.{ℕ}
use Rattle.fp_raw.specs.Raws.{RawTyp, raw_variable, raw_applied, arguments}
use Rattle.fp_raw.specs.declared.ty.RawTypeNode.{RawTypeNode}
use Rattle.fp_raw.specs.declared.ty.RawTypeNode.TheVariants.{Var, Con}

abbrev pub seen_type : RawTypeNode → ℕ → RawTyp
seen_type (Var name) at = raw_variable name at
seen_type (Con name args) at = raw_applied name (arguments args.items) at
