use Rattle.std.proofs.Common.{◌≡◌, drop}
use Rattle.fp_term.specs.Variables.{is_variable_among}
use Rattle.fp_term.proofs.variables.is_variable_among.Given as goal

abbrev pub invariant-loop-pair : goal.invariant-loop-pair
invariant-loop-pair l = is_variable_among (drop l.pair-index l.known) l.name l.ty ≡ is_variable_among l.known l.name l.ty
