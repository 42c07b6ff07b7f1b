use Rattle.std.proofs.Common.{◌≡◌, ◌++◌, drop}
use Rattle.fp_spec.specs.Heads.{parameters_from, parameters}
use Rattle.fp_spec.proofs.heads.parameters.Given as goal

abbrev pub invariant-loop-ty : goal.invariant-loop-ty
invariant-loop-ty l = l.vars ++ parameters_from l.number (drop l.ty-index l.head.args) ≡ parameters l.head
