-- What the machine reads is a text, what is a text it reads, and what it can read on begins a text.
use Rattle.std.proofs.Common.{◌≡◌, ◌∙◌, ◌+◌, ◌-◌, ◌≤◌, ◌<◌, ℕ, suc, List, [], ◌∷◌, ◌++◌, length, take, drop, true, Option, Some, None, IfSome, sym, ap, length-append, inl, inr, arith}
use Rattle.std.specs.Option.{option_and_then}
use Rattle.std.proofs.lemmas.Option.{none-some, same_Some}
use Rattle.std.proofs.lemmas.Bool.{cases_lt}
use Rattle.std.proofs.lemmas.List.{take-append-drop}
use Rattle.fp_term.specs.Names.{is_part_byte}
use Rattle.fp_full.specs.Tokens.{Token, word, is_space}
use Rattle.fp_full.specs.Texts.{Kind, Parsed, kind_of, IsText, Begins, FirstBad}
use Rattle.fp_full.specs.Machine.{State, step, could, start, Phase, between, in_word, mark_of, waiting, in_longer, from_between, next_phase, run, reads_from, open_word}
use Rattle.fp_full.proofs.Spelled.{spelled_from}
use Rattle.fp_full.proofs.Taken.{finishes_spelled}
use Rattle.fp_full.proofs.Wells.{well_from}
use Rattle.fp_full.proofs.Words.{Extends, extended}
use Rattle.fp_full.proofs.Closing.{Leads, leads}
use Rattle.fp_full.proofs.Lexing.{if_cond, along, stay, reads_append, Laid, laid_from}
use Rattle.fp_full.proofs.Laying.{goes_on, reads_laid, laid_bytes, begins_apart, layout}

-- a word that is open may come there
abbrev pub IsLive : Phase → Type 0
IsLive (between s) = Unit {0}
IsLive (in_word [] s) = ⊥
IsLive (in_word (b ∷ w) s) = could s (b ∷ w) ≡ true

-- and it began at a place
abbrev pub IsLiveAt : ℕ → Phase → Type 0
IsLiveAt at q = IsLive q × (length (open_word q) ≤ at)

live_longer : (w : List ℕ) (s : State) (b at : ℕ) → length w ≤ at → IfSome (in_longer (w ++ b ∷ []) s) (IsLiveAt (suc at))
live_longer [] s b at l = if_cond (could s (b ∷ [])) (Some (in_word (b ∷ []) s)) None (IsLiveAt (suc at)) (λ e. (e, omega arith)) (λ _. tt)
live_longer (c ∷ w) s b at l =
    if_cond (could s (c ∷ (w ++ b ∷ []))) (Some (in_word (c ∷ (w ++ b ∷ [])) s)) None (IsLiveAt (suc at)) (λ e. (e, omega (arith, length-append w (b ∷ [])))) (λ _. tt)

live_waiting : (o : Option State) (at : ℕ) → IfSome (waiting o) (IsLiveAt at)
live_waiting None at = tt
live_waiting (Some s) at = (tt, omega arith)

live_mark : (o : Option Token) (s : State) (at : ℕ) → IfSome (option_and_then (λ token. waiting (step s token at)) o) (IsLiveAt (suc at))
live_mark None s at = tt
live_mark (Some token) s at = live_waiting (step s token at) (suc at)

live_between : (s : State) (b at : ℕ) → IfSome (from_between s b at) (IsLiveAt (suc at))
unfolding from_between
live_between s b at =
    if_cond (is_space b) _ _ (IsLiveAt (suc at)) (λ _. (tt, omega arith))
    (λ _. if_cond (is_part_byte b) _ _ (IsLiveAt (suc at)) (λ _. live_longer [] s b at (omega arith)) (λ _. live_mark (mark_of b) s at))

live_after : (o : Option State) (b at : ℕ) → IfSome (option_and_then (λ next. from_between next b at) o) (IsLiveAt (suc at))
live_after None b at = tt
live_after (Some next) b at = live_between next b at

live_next : (q : Phase) (b at : ℕ) → IsLiveAt at q → IfSome (next_phase q b at) (IsLiveAt (suc at))
unfolding next_phase
live_next (between s) b at h = live_between s b at
live_next (in_word w s) b at h = if_cond (is_part_byte b) _ _ (IsLiveAt (suc at)) (λ _. live_longer w s b at h.1) (λ _. live_after (step s (word w) (at - length w)) b at)

live_some : (o : Option Phase) (bytes : List ℕ) (q : Phase) (at end : ℕ) → IfSome o (IsLiveAt at) → ((next : Phase) → IsLiveAt at next → run at next bytes ≡ Some q → IsLiveAt end q) →
    option_and_then (λ next. run at next bytes) o ≡ Some q → IsLiveAt end q
live_some None bytes q at end h f e = absurd (none-some q e)
live_some (Some next) bytes q at end h f e = f next h e

-- a run keeps a phase live
pub live_run : (bytes : List ℕ) (p q : Phase) (at : ℕ) → IsLiveAt at p → run at p bytes ≡ Some q → IsLiveAt (at + length bytes) q
live_run [] p q at h e = rw (← stay at, ← same_Some p q e) h
live_run (b ∷ bs) p q at h e =
    live_some (next_phase p b at) bs q (suc at) (at + suc (length bs)) (live_next p b at h) (λ next g r. rw (← along at (length bs)) (live_run bs next q (suc at) g r)) e

-- the open word is no longer than the bytes so far
pub open_within : (s : State) (bytes : List ℕ) (q : Phase) → run 0 (between s) bytes ≡ Some q → length (open_word q) ≤ length bytes
open_within s bytes q e = let h = live_run bytes (between s) q 0 (tt, omega arith) e in omega (arith, h.1)

-- bytes from which a live phase is read to an end
pub record Reaches (at : ℕ) (q : Phase) : Type 0 where
  pub bytes : List ℕ
  pub parsed : Parsed
  pub reads : reads_from at q bytes ≡ Some parsed

pub reaches : (q : Phase) (at : ℕ) → IsLiveAt at q → Reaches at q
reaches (between s) at h = let l : Leads s at = leads s at in record { bytes = laid_bytes l.tokens; parsed = l.parsed; reads = reads_laid (layout l.tokens at) s l.parsed l.ends }
reaches (in_word [] s) at h = absurd h.0
reaches (in_word (b ∷ w) s) at h =
    let begun_at : ℕ = at - suc (length w) in
    let x : Extends s (b ∷ w) begun_at = extended s (b ∷ w) begun_at h.0 in
    let after : ℕ = begun_at + length ((b ∷ w) ++ x.further) in
    let l : Leads x.next after = leads x.next after in
    let place : at ≡ begun_at + length (b ∷ w) = omega (arith, h.1) in
    record {
      bytes = x.further ++ laid_bytes l.tokens;
      parsed = l.parsed;
      reads = ap (λ k. reads_from k (in_word (b ∷ w) s) (x.further ++ laid_bytes l.tokens)) place
          ∙ goes_on x.further w (laid_bytes l.tokens) b begun_at s x.next x.parts (begins_apart l.tokens) x.taken ∙ reads_laid (layout l.tokens after) x.next l.parsed l.ends;
    }

-- what is read is a text
pub reads_text : (k : Kind) (bytes : List ℕ) (p : Parsed) → reads_from 0 (between (start k)) bytes ≡ Some p → IsText bytes p × (kind_of p ≡ k)
reads_text k bytes p e =
    let l : Laid 0 (start k) bytes p = laid_from 0 (start k) bytes p e in
    let s = spelled_from k l.tokens p l.taken in
    (record { well = well_from k l.tokens p l.taken; tokens = l.tokens; spells = s.0; laid = l.laid }, s.1)

-- what is a text is read
pub text_reads : (bytes : List ℕ) (p : Parsed) → IsText bytes p → reads_from 0 (between (start (kind_of p))) bytes ≡ Some p
text_reads bytes p text = reads_laid text.laid (start (kind_of p)) p (finishes_spelled p text.tokens text.well text.spells)

reads_kind : (k : Kind) (bytes : List ℕ) (p : Parsed) → kind_of p ≡ k → IsText bytes p → reads_from 0 (between (start k)) bytes ≡ Some p
reads_kind k bytes p e text = ap (λ x. reads_from 0 (between (start x)) bytes) (sym e) ∙ text_reads bytes p text

-- bytes that the machine can read begin a text, and others don't
pub begins : (k : Kind) (bytes : List ℕ) (q : Phase) → run 0 (between (start k)) bytes ≡ Some q → Begins k bytes
begins k bytes q e =
    let r : Reaches (0 + length bytes) q = reaches q (0 + length bytes) (live_run bytes (between (start k)) q 0 (tt, omega arith) e) in
    let t = reads_text k (bytes ++ r.bytes) r.parsed (reads_append 0 (between (start k)) bytes r.bytes ∙ ap (λ o. option_and_then (λ n. reads_from (0 + length bytes) n r.bytes) o) e ∙ r.reads) in
    record { parsed = r.parsed; of_kind = t.1; further = r.bytes; text = t.0 }

pub begins_not : (k : Kind) (bytes : List ℕ) → run 0 (between (start k)) bytes ≡ None → Begins k bytes → ⊥
begins_not k bytes e b =
    none-some b.parsed (sym (ap (λ o. option_and_then (λ n. reads_from (0 + length bytes) n b.further) o) e) ∙ sym (reads_append 0 (between (start k)) bytes b.further)
    ∙ reads_kind k (bytes ++ b.further) b.parsed b.of_kind b.text)

-- the first place at which the bytes can't be read on, or the end where the text ends early
pub record Stops (kind : Kind) (bytes : List ℕ) (at : ℕ) : Type 0 where
  pub within : at ≤ length bytes
  pub good : (q : Phase) × (run 0 (between (start kind)) (take at bytes) ≡ Some q)
  pub bad : at < length bytes → run 0 (between (start kind)) (take (at + 1) bytes) ≡ None
  pub early : at ≡ length bytes → reads_from 0 (between (start kind)) bytes ≡ None

-- the machine stops at the first bad place
pub first_bad : (k : Kind) (bytes : List ℕ) (at : ℕ) → Stops k bytes at → FirstBad k bytes at
first_bad k bytes at s = record {
  within = s.within;
  good = begins k (take at bytes) s.good.0 s.good.1;
  bad = λ l. begins_not k (take (at + 1) bytes) (s.bad l);
  early = λ e p is text. none-some p (sym (s.early e) ∙ reads_kind k bytes p is text);
}

-- bytes with a first bad place are no text
pub no_text : (k : Kind) (bytes : List ℕ) (at : ℕ) → FirstBad k bytes at → (p : Parsed) → kind_of p ≡ k → IsText bytes p → ⊥
no_text k bytes at f p is text =
    elim (cases_lt at (length bytes)) [
      | inl l ↦ f.bad l (record { parsed = p; of_kind = is; further = drop (at + 1) bytes; text = rw (take-append-drop (at + 1) bytes) text })
      | inr e ↦ f.early (let same : at ≡ length bytes = omega (arith, f.within) in same) p is text
    ]

-- bytes are a text of one thing of a kind
pub one_reading : (bytes : List ℕ) (p q : Parsed) → kind_of p ≡ kind_of q → IsText bytes p → IsText bytes q → p ≡ q
one_reading bytes p q e t u = same_Some p q (sym (reads_kind (kind_of q) bytes p e t) ∙ text_reads bytes q u)
