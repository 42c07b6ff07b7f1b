-- The types of a table that don't contain themselves, one after another.
use Rattle.std.specs.Prelude.{◌≡◌, ◌<◌, ◌≤◌, ◌⊎◌, ◌++◌, ℕ, zero, suc, Bool, true, false, List, [], ◌∷◌, length, slice_index_or, slice_set}
use Rattle.std.specs.List.{list_all}
use Rattle.fp_term.specs.Types.{Typ}
use Rattle.fp_unify.specs.Cells.{cell, Fits}
use Rattle.fp_unify.specs.declared.table.Shape.{Shape}
use Rattle.fp_unify.specs.declared.table.Shape.TheVariants.{Open, Link, Var, Con}

abbrev pub flag : List Bool → ℕ → Bool
flag flags i = slice_index_or flags i false

-- all types of which the type is made are settled
abbrev pub is_ready : List Bool → Shape → Bool
is_ready flags Open = true
is_ready flags (Link j) = flag flags j
is_ready flags (Var name) = true
is_ready flags (Con name args) = list_all (flag flags) args

-- the types with a flag became settled one after another
pub data Settles (cells : List Shape) : List Bool → Type 0 where
  nothing : (flags : List Bool) → ((i : ℕ) → flag flags i ≡ false) → Settles cells flags
  next : (flags : List Bool) (i : ℕ) → Settles cells flags → flag flags i ≡ false → is_ready flags (cell cells i) ≡ true → Settles cells (slice_set flags i true)

-- the number is one of these
abbrev pub IsListed : ℕ → List ℕ → Type 0
IsListed j [] = ⊥
IsListed j (i ∷ all) = (j ≡ i) ⊎ IsListed j all

-- the numbers below n
abbrev pub upto : ℕ → List ℕ
upto zero = []
upto (suc n) = upto n ++ n ∷ []

abbrev pub AreUnder : ℕ → List ℕ → Type 0
AreUnder n [] = Unit {0}
AreUnder n (i ∷ all) = (i < n) × AreUnder n all

-- each type without a flag is one of these
pub record Lists (flags : List Bool) (left : List ℕ) : Type 0 where
  pub all : (j : ℕ) → j < length flags → flag flags j ≡ false → IsListed j left

-- the type is settled now, or it is not made of settled ones
abbrev pub Settled : List Shape → ℕ → List Bool → List Bool → Bool → Type 0
Settled cells i old new true =
    (flag new i ≡ true) × ((new ≡ old) ⊎ ((new ≡ slice_set old i true) × (flag old i ≡ false) × (is_ready old (cell cells i) ≡ true)))
Settled cells i old new false = (new ≡ old) × (flag old i ≡ false) × (is_ready old (cell cells i) ≡ false)

-- types that aren't settled, nor made of settled ones
pub record AreStuck (cells : List Shape) (flags : List Bool) (rest : List ℕ) : Type 0 where
  pub each : (j : ℕ) → IsListed j rest → (flag flags j ≡ false) × (is_ready flags (cell cells j) ≡ false)

-- what came of going over some types: of `n` types `rest` are left, and `todo` come yet
pub record Going (cells : List Shape) (n : ℕ) (old new : List Bool) (rest todo : List ℕ) : Type 0 where
  pub kept : length new ≡ length old
  pub settles : Settles cells new
  pub lists : (j : ℕ) → j < length new → flag new j ≡ false → IsListed j rest ⊎ IsListed j todo
  pub inside : AreUnder (length cells) rest
  pub later : AreUnder (length cells) todo
  pub fewer : length rest ≤ n
  pub stuck : length rest ≡ n → (new ≡ old) × AreStuck cells old rest

-- what came of going over n types, of which these are left
pub record Rounds (cells : List Shape) (n : ℕ) (old new : List Bool) (rest : List ℕ) : Type 0 where
  pub kept : length new ≡ length old
  pub settles : Settles cells new
  pub lists : Lists new rest
  pub inside : AreUnder (length cells) rest
  pub fewer : length rest ≤ n
  pub stuck : length rest ≡ n → AreStuck cells new rest

-- what stands between two rounds: of `before` types `left` are left
pub record Between (cells : List Shape) (before : ℕ) (flags : List Bool) (left : List ℕ) : Type 0 where
  pub kept : length flags ≡ length cells
  pub settles : Settles cells flags
  pub lists : Lists flags left
  pub inside : AreUnder (length cells) left
  pub fewer : length left ≤ before
  pub stuck : length left ≡ before → AreStuck cells flags left

pub record NoneSettled (flags : List Bool) : Type 0 where
  pub none : (i : ℕ) → flag flags i ≡ false

pub record AllSettled (flags : List Bool) : Type 0 where
  pub all : (i : ℕ) → i < length flags → flag flags i ≡ true

-- types that agree with the table, with these types where nothing is known
pub record Filled (cells : List Shape) (names : ℕ → Typ) : Type 0 where
  pub types : ℕ → Typ
  pub fit : Fits types cells
  pub chosen : (i : ℕ) → cell cells i ≡ Open → types i ≡ names i

-- for each choice of types where nothing is known there are types that agree with the table, and no others
pub record Determines (cells : List Shape) : Type 0 where
  pub filled : (names : ℕ → Typ) → Filled cells names
  pub same : (v w : ℕ → Typ) → Fits v cells → Fits w cells → ((i : ℕ) → cell cells i ≡ Open → v i ≡ w i) → (i : ℕ) → v i ≡ w i

-- no types agree with the table
pub record Unfit (cells : List Shape) : Type 0 where
  pub never : (v : ℕ → Typ) → Fits v cells → ⊥
