use Rattle.std.proofs.Common.{◌≡◌, ◌++◌, drop}
use Rattle.fp_declared.specs.Rules.{congruence_rules}
use Rattle.fp_declared.proofs.congruences.congruence_rules.Given as goal

abbrev pub invariant-loop-name : goal.invariant-loop-name
invariant-loop-name l = l.rules ++ congruence_rules l.theory.named (drop l.name-index l.theory.congs) ≡ congruence_rules l.theory.named l.theory.congs
