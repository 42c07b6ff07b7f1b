use Rattle.std.proofs.Common.{◌≡◌, drop}
use Rattle.fp_command.specs.Outcome.{is_declared}
use Rattle.fp_command.proofs.constructors.is_declared.Given as goal

abbrev pub invariant-loop-ty : goal.invariant-loop-ty
invariant-loop-ty l = is_declared (drop l.ty-index l.types) l.name ≡ is_declared l.types l.name
