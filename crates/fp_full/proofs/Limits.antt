-- The word that is open, and the limits, byte by byte.
use Rattle.std.proofs.Common.{◌≡◌, ◌∙◌, ◌+◌, ◌-◌, ◌<◌, ℕ, suc, List, [], ◌∷◌, ◌++◌, length, take, get_or, true, false, cond, Option, Some, None, IfSome, refl, sym, ap, inl, inr, arith}
use Rattle.std.specs.Option.{option_and_then}
use Rattle.std.proofs.lemmas.Option.{IfSome_then, none-some, same_Some}
use Rattle.std.proofs.lemmas.Bool.{cases_lt}
use Rattle.std.proofs.lemmas.List.{take_more}
use Rattle.fp_term.specs.Names.{is_part_byte}
use Rattle.fp_full.specs.Tokens.{Token, word, is_space}
use Rattle.fp_full.specs.Texts.{Kind, opened_by, open_after, word_after, IsWithin, KeepsLimits, FirstTooDeep, FirstTooLong}
use Rattle.fp_full.specs.Machine.{State, step, could, Phase, between, in_word, mark_of, waiting, in_longer, from_between, next_phase, run, open_word}
use Rattle.fp_full.proofs.Lexing.{if_cond}
use Rattle.fp_full.proofs.Laying.{space_apart}

-- the word after one more byte
abbrev longer : List ℕ → ℕ → List ℕ
longer w b = cond (is_part_byte b) (w ++ b ∷ []) []

abbrev IsOpen : List ℕ → ℕ → Phase → Type 0
IsOpen w b q = open_word q ≡ longer w b

open_longer : (w : List ℕ) (s : State) (b : ℕ) → is_part_byte b ≡ true → IfSome (in_longer (w ++ b ∷ []) s) (IsOpen w b)
open_longer w s b e = if_cond (could s (w ++ b ∷ [])) (Some (in_word (w ++ b ∷ []) s)) None (IsOpen w b) (λ _. rw e refl) (λ _. tt)

open_waiting : (o : Option State) (b : ℕ) → is_part_byte b ≡ false → IfSome (waiting o) (IsOpen [] b)
open_waiting None b f = tt
open_waiting (Some next) b f = rw f refl

open_mark : (o : Option Token) (s : State) (b at : ℕ) → is_part_byte b ≡ false → IfSome (option_and_then (λ token. waiting (step s token at)) o) (IsOpen [] b)
open_mark None s b at f = tt
open_mark (Some token) s b at f = open_waiting (step s token at) b f

open_between : (s : State) (b at : ℕ) → IfSome (from_between s b at) (IsOpen [] b)
unfolding from_between
open_between s b at =
    if_cond (is_space b) _ _ (IsOpen [] b) (λ e. rw (space_apart b e) refl)
    (λ _. if_cond (is_part_byte b) _ _ (IsOpen [] b) (λ e. open_longer [] s b e) (λ f. open_mark (mark_of b) s b at f))

open_after_word : (o : Option State) (w : List ℕ) (b at : ℕ) → is_part_byte b ≡ false → IfSome (option_and_then (λ next. from_between next b at) o) (IsOpen w b)
open_after_word None w b at f = tt
open_after_word (Some next) w b at f = IfSome_then (from_between next b at) (open_between next b at) (λ q e. e ∙ rw f refl)

open_next : (q : Phase) (b at : ℕ) → IfSome (next_phase q b at) (IsOpen (open_word q) b)
unfolding next_phase
open_next (between s) b at = open_between s b at
open_next (in_word w s) b at = if_cond (is_part_byte b) _ _ (IsOpen w b) (λ e. open_longer w s b e) (λ f. open_after_word (step s (word w) (at - length w)) w b at f)

at_some : (o : Option Phase) (q : Phase) (P : Phase → Type 0) → IfSome o P → o ≡ Some q → P q
at_some None q P h e = absurd (none-some q e)
at_some (Some next) q P h e = rw (← same_Some next q e) h

-- the open word after one more byte
pub word_open_next : (p q : Phase) (b at : ℕ) → next_phase p b at ≡ Some q → open_word q ≡ cond (is_part_byte b) (open_word p ++ b ∷ []) []
word_open_next p q b at e = at_some (next_phase p b at) q (IsOpen (open_word p) b) (open_next p b at) e

open_some : (o : Option Phase) (bytes w : List ℕ) (q : Phase) (b at : ℕ) → IfSome o (IsOpen w b) → ((next : Phase) → run at next bytes ≡ Some q → open_word q ≡ word_after (open_word next) bytes) →
    option_and_then (λ next. run at next bytes) o ≡ Some q → open_word q ≡ word_after (longer w b) bytes
open_some None bytes w q b at h f e = absurd (none-some q e)
open_some (Some next) bytes w q b at h f e = f next e ∙ ap (λ x. word_after x bytes) h

-- the open word after bytes
pub word_open_from : (bytes : List ℕ) (p q : Phase) (at : ℕ) → run at p bytes ≡ Some q → open_word q ≡ word_after (open_word p) bytes
word_open_from [] p q at e = ap open_word (sym (same_Some p q e))
word_open_from (b ∷ bs) p q at e = open_some (next_phase p b at) bs (open_word p) q b (suc at) (open_next p b at) (λ next. word_open_from bs next q (suc at)) e

pub word_open : (s : State) (bytes : List ℕ) (q : Phase) → run 0 (between s) bytes ≡ Some q → open_word q ≡ word_after [] bytes
word_open s bytes q e = word_open_from bytes (between s) q 0 e

-- what one more byte makes of the parentheses and of the word
open_push : (xs : List ℕ) (n b : ℕ) → open_after n (xs ++ b ∷ []) ≡ opened_by (open_after n xs) b
open_push [] n b = refl
open_push (x ∷ xs) n b = open_push xs (opened_by n x) b

word_push : (xs w : List ℕ) (b : ℕ) → word_after w (xs ++ b ∷ []) ≡ cond (is_part_byte b) (word_after w xs ++ b ∷ []) []
word_push [] w b = refl
word_push (x ∷ xs) w b = word_push xs (longer w x) b

pub open_more : (n : ℕ) (bytes : List ℕ) (i : ℕ) → i < length bytes → open_after n (take (i + 1) bytes) ≡ opened_by (open_after n (take i bytes)) (get_or bytes i 0)
open_more n bytes i l = ap (λ x. open_after n x) (take_more bytes i 0 l) ∙ open_push (take i bytes) n (get_or bytes i 0)

pub word_more : (w : List ℕ) (bytes : List ℕ) (i : ℕ) → i < length bytes → word_after w (take (i + 1) bytes) ≡ cond (is_part_byte (get_or bytes i 0)) (word_after w (take i bytes) ++ get_or bytes i 0 ∷ []) []
word_more w bytes i l = ap (λ x. word_after w x) (take_more bytes i 0 l) ∙ word_push (take i bytes) w (get_or bytes i 0)

-- no bytes keep the limits, and so does one more byte within them
pub keeps_none : (bytes : List ℕ) → KeepsLimits bytes 0
keeps_none bytes k l = let none : k ≡ 0 = omega arith in rw none (record { shallow = omega arith; short = omega arith })

pub keeps_more : (bytes : List ℕ) (at : ℕ) → KeepsLimits bytes at → IsWithin (take (at + 1) bytes) → KeepsLimits bytes (at + 1)
keeps_more bytes at h w k l =
    elim (cases_lt at k) [
      | inl past ↦ (let last : k ≡ at + 1 = omega arith in rw last w)
      | inr le ↦ h k le
    ]

-- bytes that keep the limits have no first place past them
pub not_deep : (k : Kind) (bytes : List ℕ) (at : ℕ) → FirstTooDeep k bytes at → KeepsLimits bytes (length bytes) → ⊥
not_deep k bytes at f h = let w = h (at + 1) (omega (arith, f.within)) in omega (arith, f.deep, w.shallow)

pub not_long : (k : Kind) (bytes : List ℕ) (at : ℕ) → FirstTooLong k bytes at → KeepsLimits bytes (length bytes) → ⊥
not_long k bytes at f h = let w = h (f.last + 1) (omega (arith, f.within)) in omega (arith, f.long, w.short)
