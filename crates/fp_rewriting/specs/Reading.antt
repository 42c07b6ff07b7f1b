-- The rule that the conclusion of a theorem states.
use Rattle.std.specs.Prelude.{ℕ, Bool, true, ◌&&◌, if◌then◌else◌, List, [], ◌∷◌, Option, Some, None, is_some, codes}
use Rattle.std.specs.List.{list_all}
use Rattle.fp_term.specs.Types.{Typ, Typs, variable, applied, none, more}
use Rattle.fp_term.specs.Terms.{Tm, bound, free, constant, app, abs, term_eq}
use Rattle.fp_term.specs.Variables.{is_among, type_names_in, occurs}
use Rattle.fp_conclude.specs.Logic.{true_constant, false_constant, connective, negation_constant}
use Rattle.fp_conclude.specs.Parts.{equation}
use Rattle.fp_rewriting.specs.declared.rule.Rule.{Rule}
use Rattle.fp_rewriting.specs.Candidates.{head_constant}

-- the premises of implications, all taken off
abbrev pub premises : Tm → List Tm
premises (app (app c p) q) = if term_eq c (connective (codes "imp")) then p ∷ premises q else []
premises _ = []

-- what is left then
abbrev pub consequence : Tm → Tm
consequence (app (app c p) q) = if term_eq c (connective (codes "imp")) then consequence q else app (app c p) q
consequence t = t

-- the formula that is negated
abbrev pub negated : Tm → Option Tm
negated (app c p) = if term_eq c negation_constant then Some p else None
negated _ = None

-- an equation's sides; `p` and `F` of a negation `~ p`, and `p` and `T` of another `p`
abbrev pub sides_by : Option (Typ × Tm × Tm) → Option Tm → Tm → Tm × Tm
sides_by (Some e) n t = (e.1, e.2)
sides_by None (Some p) t = (p, false_constant)
sides_by None None t = (t, true_constant)

abbrev pub sides_of : Tm → Tm × Tm
sides_of t = sides_by (equation t) (negated t) t

-- what the conclusion reads as
abbrev pub read : List ℕ → Tm → Rule
read name t = record { name = name; conds = premises t; lhs = (sides_of (consequence t)).0; rhs = (sides_of (consequence t)).1 }

-- does each type variable of the type occur in the term?
abbrev mutual
  pub is_covered : Tm → Typ → Bool
  is_covered l (variable a) = is_among (type_names_in l) a
  is_covered l (applied a args) = are_covered l args

  pub are_covered : Tm → Typs → Bool
  are_covered l none = true
  are_covered l (more first rest) = is_covered l first && are_covered l rest

-- does each variable and each type variable of the second term occur in the first?
abbrev pub covers : Tm → Tm → Bool
covers l (bound n) = true
covers l (free a s) = occurs a s l && is_covered l s
covers l (constant a s) = is_covered l s
covers l (app f x) = covers l f && covers l x
covers l (abs s x) = is_covered l s && covers l x

-- a constant stands at the head of the left side, and all variables and type variables occur there
abbrev pub is_rewriting : Rule → Bool
is_rewriting r = is_some (head_constant r.lhs) && list_all (covers r.lhs) r.conds && covers r.lhs r.rhs

-- the rule of that name that the conclusion states
abbrev pub rule_of : List ℕ → Tm → Option Rule
rule_of name t = if is_rewriting (read name t) then Some (read name t) else None
