use Rattle.std.proofs.Common.{◌≡◌, drop}
use Rattle.fp_rewriting.specs.Index.{with_rules, tip}
use Rattle.fp_rewriting.proofs.index.Index.of.Given as goal

abbrev pub invariant-loop-rule : goal.invariant-loop-rule
invariant-loop-rule l = with_rules l.rules tip ≡ with_rules (drop l.rule-index l.rules) l.index
