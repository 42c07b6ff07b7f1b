-- The variable with which an abstraction is opened.
use Rattle.std.specs.Prelude.{◌≡◌, ◌≤◌, ◌<◌, ℕ, ◌+◌, Bool, true, false, ◌||◌, suc, zero, if◌then◌else◌, List, length, codes}
use Rattle.fp_term.specs.Names.{numbered}
use Rattle.fp_term.specs.Terms.{Tm, size_of}
use Rattle.fp_term.specs.Variables.{free_names, is_among}

-- `w1`, `w2` and so on
abbrev pub opening_name : ℕ → List ℕ
opening_name n = numbered (codes "w") n

-- has a free variable of the term that name, or is it among the names?
abbrev pub is_taken : List (List ℕ) → Tm → List ℕ → Bool
is_taken names t w = is_among (free_names t) w || is_among names w

-- the first of the names from that number on that isn't taken, of so many and one
unfoldable pub first_untaken : ℕ → List (List ℕ) → Tm → ℕ → List ℕ
first_untaken zero names t n = opening_name n
first_untaken (suc tries) names t n = if is_taken names t (opening_name n) then first_untaken tries names t (n + 1) else opening_name n

-- the first of `w1`, `w2` and so on that no free variable of the term has and that isn't among the names: no more are taken
-- than the term has nodes and there are names
abbrev pub fresh_name : List (List ℕ) → Tm → List ℕ
fresh_name names t = first_untaken (size_of t + length names) names t 1

-- the name is the first of `w1`, `w2` and so on that isn't taken
pub record IsFirstUntaken (names : List (List ℕ)) (t : Tm) (w : List ℕ) : Type 0 where
  pub number : ℕ
  pub is : w ≡ opening_name number
  pub numbered_from_one : 1 ≤ number
  pub untaken : is_taken names t w ≡ false
  pub earlier : (n : ℕ) → 1 ≤ n → n < number → is_taken names t (opening_name n) ≡ true
