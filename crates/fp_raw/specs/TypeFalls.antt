-- The parts of one level of a written type are smaller than the type.
use Rattle.std.specs.Prelude.{ℕ, ◌≤◌}
use Rattle.std.proofs.Common.{arith}
use Rattle.fp_raw.specs.Raws.{raw_type_size}
use Rattle.fp_raw.specs.RawCodes.{arguments_smaller}
use Rattle.fp_raw.specs.TypeView.{seen_type}
use Rattle.fp_raw.specs.declared.ty.RawTypeNode.{RawTypeNode}
use Rattle.fp_raw.specs.declared.ty.RawTypeNode.TheVariants.{Var, Con}
use Rattle.fp_raw.specs.declared.ty.RawType.TheDeep.{deep-RawTypeNode}

pub type_falls : (n : RawTypeNode) (at : ℕ) → deep-RawTypeNode n ≤ raw_type_size (seen_type n at)
type_falls (Var name) at = omega arith
type_falls (Con name args) at = omega (arith, arguments_smaller args.items)
