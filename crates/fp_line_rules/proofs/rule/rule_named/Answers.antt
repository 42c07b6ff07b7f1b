use Rattle.std.proofs.Common.{◌≡◌, ◌∙◌, refl}
use Rattle.fp_line_rules.specs.Table.{found_rule, kernel_rules, equation_rules, connective_rules, quantifier_rules}
use Rattle.fp_line_rules.proofs.rule.rule_named.Goals as goal

pub returns : goal.returns
returns c =
    let name = c.args.name.now in
    let text = c.as_slice-text.ensures.value in
    let kernel : c.found_rule-kernel.result ≡ found_rule name kernel_rules = rw (text, c.as_slice.ensures) at c.found_rule-kernel.ensures in
    let equations : c.found_rule-equations.result ≡ found_rule name equation_rules = rw (text, c.as_slice-2.ensures) at c.found_rule-equations.ensures in
    let connectives : c.found_rule-connectives.result ≡ found_rule name connective_rules = rw (text, c.as_slice-3.ensures) at c.found_rule-connectives.ensures in
    let quantifiers : c.found_rule-quantifiers.result ≡ found_rule name quantifier_rules = rw (text, c.as_slice-4.ensures) at c.found_rule-quantifiers.ensures in
    c.first_rule.ensures ∙ (rw (c.first_rule-derived.ensures, c.first_rule-forms.ensures, kernel, equations, connectives, quantifiers) refl)
