use Rattle.std.proofs.Common.{◌≡◌, ◌++◌, drop}
use Rattle.fp_constructors.specs.Needed.{equations_from}
use Rattle.fp_constructors.proofs.statements.equations.Given as goal

abbrev pub invariant-loop-ty : goal.invariant-loop-ty
invariant-loop-ty l = l.equations ++ equations_from l.number (drop l.ty-index l.tys) ≡ equations_from 1 l.tys
