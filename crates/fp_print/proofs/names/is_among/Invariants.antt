use Rattle.std.proofs.Common.{◌≡◌, drop}
use Rattle.fp_term.specs.Variables.{is_among}
use Rattle.fp_print.proofs.names.is_among.Given as goal

abbrev pub invariant-loop-name : goal.invariant-loop-name
invariant-loop-name l = is_among (drop l.name-index l.used) l.bytes ≡ is_among l.used l.bytes
