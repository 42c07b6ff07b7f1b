-- Which rules are passed over, and which one is tried.
use Rattle.std.specs.Prelude.{◌≡◌, ℕ, true, false, List, ◌∷◌}
use Rattle.fp_term.specs.Terms.{Tm}
use Rattle.fp_match.specs.Instances.{IsTermInstance}
use Rattle.fp_match.specs.declared.inst.Inst.{Inst}
use Rattle.fp_rewriting.specs.declared.rule.Rule.{Rule}
use Rattle.fp_rewriting.specs.Simplification.{Matches, is_too_deep}

-- is the rule passed over?
pub data IsPassed (d : ℕ) (t : Tm) (r : Rule) : Type 0 where
  deep : is_too_deep d r ≡ true → IsPassed d t r
  foreign : (IsTermInstance r.lhs t → ⊥) → IsPassed d t r

-- the rule fits the term by the instance
pub record Fits (d : ℕ) (i : Inst) (r : Rule) (t : Tm) : Type 0 where
  pub shallow : is_too_deep d r ≡ false
  pub matches : Matches i r.lhs t

-- the second list is the first without some rules at its front that are passed over
pub data Passes (d : ℕ) (t : Tm) : List Rule → List Rule → Type 0 where
  here : (rs : List Rule) → Passes d t rs rs
  over : (r : Rule) (rs rest : List Rule) → IsPassed d t r → Passes d t rs rest → Passes d t (r ∷ rs) rest
