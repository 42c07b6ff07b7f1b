-- The types that parts of the program stand for.
use Rattle.std.specs.Prelude.{ℕ, reverse}
use Rattle.fp_raw.specs.Raws.{RawTyp, raw_variable, raw_applied, arguments}
use Rattle.fp_written.specs.declared.types.Head.{Head}
use Rattle.fp_written.specs.declared.types.Head.TheVariants.{Var, Con}
use Rattle.fp_written.specs.declared.types.TypePart.{TypePart}
use Rattle.fp_written.specs.Machine.{SizedTy, sized_ty}

abbrev pub head_of : Head → ℕ → RawTyp
head_of (Var name) at = raw_variable name at
head_of (Con name args) at = raw_applied name (arguments (reverse args.items)) at

abbrev pub sized_type_of : TypePart → SizedTy
sized_type_of p = sized_ty (head_of p.head p.at) p.depth
