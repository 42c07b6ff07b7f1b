use Rattle.std.proofs.Common.{◌≡◌, List, ℕ, map, drop}
use Rattle.fp_line_rules.specs.Table.{found_rule}
use Rattle.fp_line_rules.proofs.rule.found_rule.Given as goal

abbrev pub invariant-loop-pair : goal.invariant-loop-pair
invariant-loop-pair l = found_rule l.text (map (λ p. (p.0.now, p.1)) (drop l.pair-index l.rules)) ≡ found_rule l.text (map (λ p. (p.0.now, p.1)) l.rules)
