-- The rules that theorems of given names state.
use Rattle.std.specs.Prelude.{ℕ, List, [], ◌∷◌, ◌++◌, Option, Some, None}
use Rattle.fp_kernel.specs.Theorems.{Theorem}
use Rattle.fp_group.specs.declared.congruence.CongRule.{CongRule}
use Rattle.fp_cong_rule.specs.Reading.{cong_rule_of}
use Rattle.fp_rewriting.specs.declared.rule.Rule.{Rule}
use Rattle.fp_rewriting.specs.Reading.{rule_of}
use Rattle.fp_theory.specs.State.{found_theorem}

-- the rule of that name that the theorem states, where there is a theorem
abbrev pub stated_rule : List ℕ → Option Theorem → Option Rule
stated_rule name None = None
stated_rule name (Some th) = rule_of name th.concl

abbrev pub stated_congruence : List ℕ → Option Theorem → Option CongRule
stated_congruence name None = None
stated_congruence name (Some th) = cong_rule_of name th.concl

abbrev pub in_list : {A : Type 0} → Option A → List A
in_list None = []
in_list (Some x) = x ∷ []

-- those of all the names, in their order
abbrev pub rewrite_rules : List (List ℕ × Theorem) → List (List ℕ) → List Rule
rewrite_rules named [] = []
rewrite_rules named (name ∷ names) = in_list (stated_rule name (found_theorem name named)) ++ rewrite_rules named names

abbrev pub congruence_rules : List (List ℕ × Theorem) → List (List ℕ) → List CongRule
congruence_rules named [] = []
congruence_rules named (name ∷ names) = in_list (stated_congruence name (found_theorem name named)) ++ congruence_rules named names
