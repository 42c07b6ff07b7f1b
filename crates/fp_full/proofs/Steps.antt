-- Runs over tokens.
use Rattle.std.proofs.Common.{◌≡◌, ℕ, suc, ◌+◌, List, [], ◌∷◌, length, true, Option}
use Rattle.std.specs.Option.{option_and_then}
use Rattle.std.specs.List.{list_all}
use Rattle.fp_term.specs.Names.{is_part_byte}
use Rattle.fp_full.specs.Tokens.{Token, word, spelled, Placed}
use Rattle.fp_full.specs.Texts.{Parsed}
use Rattle.fp_full.specs.Machine.{State, step, finish}

-- what these tokens make of the state
abbrev pub finishes : State → List Placed → Option Parsed
finishes s [] = finish s
finishes s (p ∷ ps) = option_and_then (λ next. finishes next ps) (step s p.token p.at)

-- the tokens with a space before each, from that place on
abbrev pub laid_out : ℕ → List Token → List Placed
laid_out at [] = []
laid_out at (t ∷ ts) = record { token = t; at = suc at } ∷ laid_out (suc at + length (spelled t)) ts

-- each word has a byte, and only letters, digits, `_` and `'`
abbrev pub IsWord : List ℕ → Type 0
IsWord [] = ⊥
IsWord (b ∷ bs) = list_all is_part_byte (b ∷ bs) ≡ true

abbrev pub AreWords : List Token → Type 0
AreWords [] = Unit {0}
AreWords (word w ∷ ts) = IsWord w × AreWords ts
AreWords (_ ∷ ts) = AreWords ts
