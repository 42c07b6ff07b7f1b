use Rattle.std.proofs.Common.{◌≡◌, take}
use Rattle.fp_group.proofs.constructors.ConTable.copy.Given as goal

abbrev pub invariant-loop-ty : goal.invariant-loop-ty
invariant-loop-ty l = l.types ≡ take l.ty-index l.self.types
