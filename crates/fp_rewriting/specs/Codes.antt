-- Rules as plain data, by which a proof tells them apart.
use Rattle.std.specs.Prelude.{ℕ, List, refl}
use Rattle.std.specs.Coded.{Coded, code_by, coded_list, coded×, coded_ℕ}
use Rattle.fp_term.specs.Terms.{Tm}
use Rattle.fp_term.specs.Codes.{coded_term}
use Rattle.fp_rewriting.specs.declared.rule.Rule.{Rule}

abbrev pub Parts : Type 0
Parts = List ℕ × (List Tm × (Tm × Tm))

abbrev pub coded_parts : Coded Parts
coded_parts = coded× (coded_list coded_ℕ) (coded× (coded_list coded_term) (coded× coded_term coded_term))

abbrev pub coded_rule : Coded Rule
coded_rule = code_by Parts coded_parts (λ r. (r.name, (r.conds, (r.lhs, r.rhs)))) (λ p. record { name = p.0; conds = p.1.0; lhs = p.1.1.0; rhs = p.1.1.1 }) (λ r. refl)

abbrev pub coded_rules : Coded (List Rule)
coded_rules = coded_list coded_rule
