use Rattle.std.proofs.Common.{◌≡◌, drop}
use Rattle.fp_conclude.specs.Hypotheses.{member}
use Rattle.fp_retrace.proofs.simplified.is_guard.Given as goal

abbrev pub invariant-loop-guard : goal.invariant-loop-guard
invariant-loop-guard l = member l.term l.guards ≡ member l.term (drop l.guard-index l.guards)
