-- The rules that may fit a term: those whose left side has the same constant at its head.
use Rattle.std.specs.Prelude.{◌≡◌, ℕ, Bool, true, false, if◌then◌else◌, List, [], ◌∷◌, Option, Some, None, is_some}
use Rattle.std.specs.Str.{bytes_eq}
use Rattle.fp_term.specs.Terms.{Tm, bound, free, constant, app, abs}
use Rattle.fp_rewriting.specs.declared.rule.Rule.{Rule}

-- the constant at the head of a term
abbrev pub head_constant : Tm → Option (List ℕ)
head_constant (bound n) = None
head_constant (free a s) = None
head_constant (constant a s) = Some a
head_constant (app f x) = head_constant f
head_constant (abs s x) = None

abbrev pub is_head : List ℕ → Option (List ℕ) → Bool
is_head name None = false
is_head name (Some a) = bytes_eq a name

-- the rules with that head, in their order
abbrev pub with_head : List ℕ → List Rule → List Rule
with_head name [] = []
with_head name (r ∷ rs) = if is_head name (head_constant r.lhs) then r ∷ with_head name rs else with_head name rs

abbrev pub with_head_of : Option (List ℕ) → List Rule → List Rule
with_head_of None rs = []
with_head_of (Some name) rs = with_head name rs

abbrev pub candidates : List Rule → Tm → List Rule
candidates rs t = with_head_of (head_constant t) rs

-- each left side has a constant at its head
abbrev pub AreHeaded : List Rule → Type 0
AreHeaded [] = Unit {0}
AreHeaded (r ∷ rs) = (is_some (head_constant r.lhs) ≡ true) × AreHeaded rs
