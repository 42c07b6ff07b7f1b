use Rattle.std.proofs.Common.{◌≡◌, ◌++◌, drop}
use Rattle.std.specs.List.{All}
use Rattle.fp_rewriting.specs.Stated.{IsStated}
use Rattle.fp_declared.specs.Rules.{rewrite_rules}
use Rattle.fp_declared.proofs.rewriting.rewrite_rules.Given as goal

abbrev pub invariant-loop-name : goal.invariant-loop-name
invariant-loop-name l = (l.rules.items ++ rewrite_rules l.theory.named (drop l.name-index l.theory.simps) ≡ rewrite_rules l.theory.named l.theory.simps) × All IsStated l.rules.items
