use Rattle.std.proofs.Common.{◌≡◌, ◌++◌, drop}
use Rattle.fp_constructors.specs.Needed.{numbered_from}
use Rattle.fp_constructors.proofs.statements.numbered_variables.Given as goal

abbrev pub invariant-loop-ty : goal.invariant-loop-ty
invariant-loop-ty l = l.vars ++ numbered_from l.number l.stem (drop l.ty-index l.tys) ≡ numbered_from 1 l.stem l.tys
