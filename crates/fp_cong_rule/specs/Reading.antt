-- The congruence rule of that name that a conclusion states.
use Rattle.std.specs.Prelude.{ℕ, ◌+◌, if◌then◌else◌, List, [], ◌∷◌, ◌++◌, map, Option, Some, None}
use Rattle.fp_term.specs.Types.{Typ}
use Rattle.fp_term.specs.Terms.{Tm, free, constant, term_eq, head_of, arguments_of}
use Rattle.fp_conclude.specs.Parts.{equation}
use Rattle.fp_group.specs.declared.congruence.CongPremise.{CongPremise}
use Rattle.fp_group.specs.declared.congruence.CongRule.{CongRule}
use Rattle.fp_cong_rule.specs.declared.parts.Premise.{Premise}
use Rattle.fp_cong_rule.specs.Parts.{premises, consequence, parts_of}
use Rattle.fp_cong_rule.specs.Form.{subject_of, is_rule_at}

-- the first place of the term in the list, counted from the number on; 0 where it is none of them
abbrev pub place_from : ℕ → List Tm → Tm → ℕ
place_from n [] t = 0
place_from n (x ∷ xs) t = if term_eq x t then n else place_from (n + 1) xs t

abbrev pub premise_read : List Tm → Premise → CongPremise
premise_read xs p = record { position = place_from 1 xs (subject_of p); vars = p.vars; guards = p.guards }

abbrev pub variable_in : Tm → List (List ℕ × Typ)
variable_in (free a s) = (a, s) ∷ []
variable_in _ = []

-- the variables of the list
abbrev pub variables_among : List Tm → List (List ℕ × Typ)
variables_among [] = []
variables_among (t ∷ ts) = variable_in t ++ variables_among ts

abbrev pub rule_read : List ℕ → List ℕ → Typ → List Tm → List Tm → List Premise → CongRule
rule_read name c s xs ys ps = record { name = name; constant = c; ty = s; ys = variables_among ys; premises = map (premise_read xs) ps }

abbrev pub rule_by_head : List ℕ → Tm → List Premise → Tm → Tm → Tm → Option CongRule
rule_by_head name t ps (constant c s) l r = if is_rule_at t s l r ps then Some (rule_read name c s (arguments_of l) (arguments_of r) ps) else None
rule_by_head name t ps _ l r = None

abbrev pub rule_by_sides : List ℕ → Tm → List Premise → Option (Typ × Tm × Tm) → Option CongRule
rule_by_sides name t ps None = None
rule_by_sides name t ps (Some e) = rule_by_head name t ps (head_of e.1) e.1 e.2

abbrev pub cong_rule_of : List ℕ → Tm → Option CongRule
cong_rule_of name t = rule_by_sides name t (map parts_of (premises t)) (equation (consequence t))
