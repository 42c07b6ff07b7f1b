-- The form of a congruence rule `A1 --> .. --> Am --> c x1 .. xm = c y1 .. ym`.
use Rattle.std.specs.Prelude.{ℕ, ◌-◌, Bool, true, false, not, ◌&&◌, ◌==◌, nat_lt, if◌then◌else◌, List, [], ◌∷◌, ◌++◌, length, Option, Some, None, is_none}
use Rattle.std.specs.List.{list_all}
use Rattle.fp_term.specs.Types.{Typ}
use Rattle.fp_term.specs.Terms.{Tm, bound, free, constant, app, abs, term_eq, head_of, arguments_of}
use Rattle.fp_term.specs.Variables.{hidden_of}
use Rattle.fp_conclude.specs.Hypotheses.{member}
use Rattle.fp_conclude.specs.Parts.{equation}
use Rattle.fp_cong_rule.specs.declared.parts.Premise.{Premise}

abbrev pub is_variable : Tm → Bool
is_variable (free a s) = true
is_variable _ = false

-- does none stand twice?
abbrev pub are_distinct : List Tm → Bool
are_distinct [] = true
are_distinct (t ∷ ts) = not (member t ts) && are_distinct ts

-- are these the loose numbers below the number, the greatest first?
abbrev pub are_numbers : ℕ → List Tm → Bool
are_numbers n [] = n == 0
are_numbers n (t ∷ ts) = not (n == 0) && term_eq t (bound (n - 1)) && are_numbers (n - 1) ts

-- the `y` of an `x`
abbrev pub partner : List Tm → List Tm → Tm → Option Tm
partner [] ys t = None
partner (x ∷ xs) [] t = None
partner (x ∷ xs) (y ∷ ys) t = if term_eq x t then Some y else partner xs ys t

abbrev pub is_that : Option Tm → Tm → Bool
is_that None t = false
is_that (Some u) t = term_eq u t

-- are all free variables of the term among these?
abbrev pub mentions_only : List Tm → Tm → Bool
mentions_only known (bound n) = true
mentions_only known (free a s) = member (free a s) known
mentions_only known (constant a s) = true
mentions_only known (app f x) = mentions_only known f && mentions_only known x
mentions_only known (abs s x) = mentions_only known x

-- what is applied on the left of an equation
abbrev pub left_head : Option (Typ × Tm × Tm) → Tm → Tm
left_head None t = t
left_head (Some e) t = head_of e.1

-- the `x` of which a premise `!v1 .. vk. G1 --> .. --> Gr --> x v1 .. vk = y v1 .. vk` speaks
abbrev pub subject_of : Premise → Tm
subject_of p = left_head (equation p.rest) p.rest

-- is it `x v1 .. vk = y v1 .. vk`, for one of the pairs?
abbrev pub are_ends : List Tm → List Tm → ℕ → Option (Typ × Tm × Tm) → Bool
are_ends xs ys k None = false
are_ends xs ys k (Some e) = is_that (partner xs ys (head_of e.1)) (head_of e.2) && are_numbers k (arguments_of e.1) && are_numbers k (arguments_of e.2)

-- is it a premise for one of the pairs, whose guards mention only its own variables and the known ones?
abbrev pub is_premise : List Tm → List Tm → List Tm → Premise → Bool
is_premise xs ys known p = are_ends xs ys (length p.vars) (equation p.rest) && list_all (mentions_only known) p.guards

abbrev pub with_partner : Option Tm → List Tm → List Tm
with_partner None known = known
with_partner (Some y) known = known ++ y ∷ []

-- the known ones and, where the premise has no guard, its `y`
abbrev pub known_after : List Tm → List Tm → List Tm → Premise → List Tm
known_after xs ys known p = if length p.guards == 0 then with_partner (partner xs ys (subject_of p)) known else known

-- a premise that fits, for an `x` that isn't taken
abbrev pub is_next : List Tm → List Tm → List Tm → List Tm → Premise → Bool
is_next xs ys taken known p = is_premise xs ys known p && not (member (subject_of p) taken)

-- premises each of which speaks of another `x`; a guard mentions the `y`s of earlier premises without guards
abbrev pub are_premises : List Tm → List Tm → List Tm → List Tm → List Premise → Bool
are_premises xs ys taken known [] = true
are_premises xs ys taken known (p ∷ ps) = is_next xs ys taken known p && are_premises xs ys (taken ++ subject_of p ∷ []) (known_after xs ys known p) ps

-- so many variables on each side, at least one, all distinct
abbrev pub are_sides : ℕ → List Tm → List Tm → Bool
are_sides m xs ys = nat_lt 0 m && length xs == m && length ys == m && list_all is_variable (xs ++ ys) && are_distinct (xs ++ ys)

-- are these the sides and the premises of a rule, one premise for each argument?
abbrev pub is_rule : Tm → Tm → List Premise → Bool
is_rule l r ps = term_eq (head_of l) (head_of r) && are_sides (length ps) (arguments_of l) (arguments_of r) && are_premises (arguments_of l) (arguments_of r) [] [] ps

-- and do all type variables of the conclusion occur in the type of its constant?
abbrev pub is_rule_at : Tm → Typ → Tm → Tm → List Premise → Bool
is_rule_at t s l r ps = is_rule l r ps && is_none (hidden_of t s)
