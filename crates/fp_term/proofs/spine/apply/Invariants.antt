use Rattle.std.proofs.Common.{◌≡◌, drop}
use Rattle.fp_term.specs.Terms.{applied_to}
use Rattle.fp_term.proofs.spine.apply.Given as goal

abbrev pub invariant-loop-arg : goal.invariant-loop-arg
invariant-loop-arg l = applied_to l.made (drop l.arg-index l.args) ≡ applied_to l.head l.args
