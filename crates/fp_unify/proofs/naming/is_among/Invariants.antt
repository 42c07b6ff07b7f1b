use Rattle.std.proofs.Common.{◌≡◌, drop}
use Rattle.fp_term.specs.Variables.{is_among}
use Rattle.fp_unify.proofs.naming.is_among.Given as goal

abbrev pub invariant-loop-known : goal.invariant-loop-known
invariant-loop-known l = is_among (drop l.known-index l.names) l.name ≡ is_among l.names l.name
