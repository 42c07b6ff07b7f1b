use Rattle.std.proofs.Common.{◌≡◌, drop}
use Rattle.fp_term.specs.Variables.{is_among}
use Rattle.fp_print.proofs.names.is_known.Given as goal

abbrev pub invariant-loop-known : goal.invariant-loop-known
invariant-loop-known l = is_among (drop l.known-index l.used) l.name ≡ is_among l.used l.name
