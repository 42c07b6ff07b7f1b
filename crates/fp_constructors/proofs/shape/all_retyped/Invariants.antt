use Rattle.std.proofs.Common.{◌≡◌, take}
use Rattle.std.specs.Prelude.{map}
use Rattle.fp_term.specs.Types.{retyped}
use Rattle.fp_constructors.proofs.shape.all_retyped.Given as goal

abbrev pub invariant-loop-ty : goal.invariant-loop-ty
invariant-loop-ty l = l.made ≡ map (retyped l.pairs) (take l.ty-index l.tys)
