-- The first definitions of a list.
use Rattle.std.proofs.Common.{◌≡◌, ◌∙◌, ℕ, ◌+◌, ◌<◌, ◌≤◌, Bool, true, false, cond, nat_lt, List, [], ◌∷◌, length, refl, sym, ap, arith}
use Rattle.std.proofs.lemmas.Bool.{lt-ltb, ltb-true, le-ltb, ltb-false}
use Rattle.fp_kernel.specs.Definitions.{Def, Within, whole, newer, oldest}
use Rattle.fp_kernel.specs.Conservative.{IsConservative}

pub oldest_all : (n : ℕ) (defs : List Def) → n ≡ length defs → oldest n defs ≡ defs
oldest_all n [] e = refl
oldest_all n (d ∷ older) e = rw (lt-ltb (length older) n (omega arith)) refl

pub oldest_step : (n : ℕ) (d : Def) (older : List Def) → n ≤ length older → oldest n (d ∷ older) ≡ oldest n older
oldest_step n d older h = rw (le-ltb (length older) n h) refl

length_by : (b : Bool) (n : ℕ) (d : Def) (older shorter : List Def) → nat_lt (length older) n ≡ b → n ≤ length (d ∷ older) → (n ≤ length older → length shorter ≡ n) →
    length (cond b (d ∷ older) shorter) ≡ n
length_by true n d older shorter e h f = let k : length older < n = ltb-true (length older) n e in omega arith
length_by false n d older shorter e h f = f (ltb-false (length older) n e)

pub oldest_length : (n : ℕ) (defs : List Def) → n ≤ length defs → length (oldest n defs) ≡ n
oldest_length n [] h = omega arith
oldest_length n (d ∷ older) h = length_by (nat_lt (length older) n) n d older (oldest n older) refl h (λ k. oldest_length n older k)

within_by : (b : Bool) (d : Def) (older shorter : List Def) → Within shorter older → Within (cond b (d ∷ older) shorter) (d ∷ older)
within_by true d older shorter w = whole
within_by false d older shorter w = newer d w

pub oldest_within : (n : ℕ) (defs : List Def) → Within (oldest n defs) defs
oldest_within n [] = whole
oldest_within n (d ∷ older) = within_by (nat_lt (length older) n) d older (oldest n older) (oldest_within n older)

twice_by : (b : Bool) (m n : ℕ) (d : Def) (older shorter : List Def) → nat_lt (length older) n ≡ b → m ≤ n → oldest m shorter ≡ oldest m older →
    oldest m (cond b (d ∷ older) shorter) ≡ oldest m (d ∷ older)
twice_by true m n d older shorter e h k = refl
twice_by false m n d older shorter e h k =
    let l : n ≤ length older = ltb-false (length older) n e in
    k ∙ sym (oldest_step m d older (omega arith))

pub oldest_twice : (m n : ℕ) (defs : List Def) → m ≤ n → oldest m (oldest n defs) ≡ oldest m defs
oldest_twice m n [] h = refl
oldest_twice m n (d ∷ older) h = twice_by (nat_lt (length older) n) m n d older (oldest n older) refl h (oldest_twice m n older h)

-- each part of a conservative list is conservative
pub conservative_within : {old new : List Def} → Within old new → IsConservative new → IsConservative old
conservative_within whole h = h
conservative_within (newer d w) h = conservative_within w h.1

-- fewer of the first definitions are the first of all
pub shorter_fits : (m n : ℕ) (defs : List Def) → n ≤ length defs → m ≤ length (oldest n defs) → m ≤ length defs
shorter_fits m n defs h k = let e = oldest_length n defs h in omega arith

pub shorter_is : (m n : ℕ) (defs : List Def) → n ≤ length defs → m ≤ length (oldest n defs) → oldest m defs ≡ oldest m (oldest n defs)
shorter_is m n defs h k = let e = oldest_length n defs h in sym (oldest_twice m n defs (omega arith))

-- the first definitions, held as a list of their own
pub first_fits : (n : ℕ) (list defs : List Def) → list ≡ oldest n defs → n ≤ length defs → n ≤ length list
first_fits n list defs e h = let k = ap length e ∙ oldest_length n defs h in omega arith

pub first_is : (n : ℕ) (list defs : List Def) → list ≡ oldest n defs → n ≤ length defs → oldest n list ≡ oldest n defs
first_is n list defs e h = oldest_all n list (sym (ap length e ∙ oldest_length n defs h)) ∙ e
