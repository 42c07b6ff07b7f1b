use Rattle.fp_retrace.specs.Standing.{AreNamedWithin}
use Rattle.fp_declared.proofs.rewriting.rule_theorems.Given as goal

abbrev pub invariant-loop-name : goal.invariant-loop-name
invariant-loop-name l = AreNamedWithin l.theory.defs l.theorems
