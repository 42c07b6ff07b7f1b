-- From what the reader does with each byte to what it answers.
use Rattle.std.proofs.Common.{◌≡◌, ◌∙◌, ◌+◌, ◌≤◌, ◌<◌, ℕ, List, [], length, take, get_or, ◌∷◌, ◌++◌, Bool, true, false, cond, Some, None, Result, Ok, Err, refl, sym, ap, arith, length-append, length-take, zero-add}
use Rattle.std.proofs.Math.Seq.{take-length}
use Rattle.std.specs.Option.{option_and_then}
use Rattle.fp_term.specs.Names.{is_part_byte}
use Rattle.fp_full.specs.declared.parsed.Parsed.{Parsed as Read}
use Rattle.fp_full.specs.declared.fault.FullFault.{FullFault}
use Rattle.fp_full.specs.declared.fault.FullFault.TheVariants.{Refused, TooDeep, NameTooLong, NoMemory}
use Rattle.fp_full.specs.Texts.{Kind, Parsed, kind_of, opened_by, open_after, IsText, FirstBad, KeepsLimits, FirstTooDeep, FirstTooLong}
use Rattle.fp_full.specs.Machine.{Phase, between, start, next_phase, ended_at, run, reads_from, open_word}
use Rattle.fp_full.specs.Views.{parsed_of, RefusesAt, TooDeepAt, NameTooLongAt, IsWantOfMemory}
use Rattle.fp_full.specs.Reads.{Advances, StopsBy, FaultAt, EndsAs, ReadsAs, Answers}
use Rattle.fp_full.proofs.Lexing.{run_more}
use Rattle.fp_full.proofs.Reading.{begins, first_bad, no_text, reads_text, one_reading, open_within}
use Rattle.fp_full.proofs.Limits.{word_open, word_open_next, open_more, keeps_more, not_deep, not_long}

-- the phase and the depth after the bytes before a place, which keep the limits
pub record Reached (k : Kind) (bytes : List ℕ) (at : ℕ) (phase : Phase) (depth : ℕ) : Type 0 where
  pub run : run 0 (between (start k)) (take at bytes) ≡ Some phase
  pub keeps : KeepsLimits bytes at
  pub count : depth ≡ open_after 0 (take at bytes)

module _ (k : Kind) (bytes : List ℕ) (at : ℕ) (phase : Phase) (depth : ℕ) (r : Reached k bytes at phase depth) where
  -- the depth after one more byte
  deeper : at < length bytes → opened_by depth (get_or bytes at 0) ≡ open_after 0 (take (at + 1) bytes)
  deeper l = ap (λ d. opened_by d (get_or bytes at 0)) r.count ∙ sym (open_more 0 bytes at l)

  further : (new : Phase) → at < length bytes → next_phase phase (get_or bytes at 0) at ≡ Some new → run 0 (between (start k)) (take (at + 1) bytes) ≡ Some new
  further new l e = run_more (between (start k)) phase bytes at (get_or bytes at 0) (Some new) r.run l refl e

  pub shallow : depth ≤ 200
  shallow = rw r.count ((r.keeps at (omega arith)).shallow)

  pub advanced : (new : Phase) (d : ℕ) → at < length bytes → Advances phase depth (get_or bytes at 0) at new d → Reached k bytes (at + 1) new d
  advanced new d l a =
      let s = further new l a.phase in
      let c = a.counted ∙ deeper l in
      record {
        run = s;
        keeps = keeps_more bytes at r.keeps (record { shallow = rw (← c) a.shallow; short = rw (← word_open (start k) (take (at + 1) bytes) new s) a.short });
        count = c;
      }

  pub stopped : (fault : FullFault) → at < length bytes → StopsBy phase depth (get_or bytes at 0) at fault → FaultAt k bytes fault
  stopped (Refused place) l s = rw s.0 (
    first_bad k bytes at (record {
      within = omega arith;
      good = (phase, r.run);
      bad = λ m. run_more (between (start k)) phase bytes at (get_or bytes at 0) None r.run m refl s.1;
      early = λ e. absurd (omega arith);
    }),
    r.keeps,
  )
  stopped (TooDeep place) l s = rw s.0 (record {
    within = l;
    begins = begins k (take (at + 1) bytes) s.1.new (further s.1.new l s.1.phase);
    keeps = r.keeps;
    deep = rw (← deeper l) s.1.deep;
  })
  stopped (NameTooLong place) l s =
      let t = further s.new l s.phase in
      let w = word_open (start k) (take (at + 1) bytes) s.new t in
      record {
        last = at;
        within = l;
        begins = begins k (take (at + 1) bytes) s.new t;
        keeps = r.keeps;
        long = rw (← w) s.long;
        starts = rw (← w) s.starts;
      }
  stopped NoMemory l s = tt

longer_by : (c : Bool) (w : List ℕ) (b at : ℕ) → length w ≤ at → length (cond c (w ++ b ∷ []) []) ≤ at + 1
longer_by true w b at l = simp length-append (omega arith)
longer_by false w b at l = omega arith

-- what was read of all the bytes
whole_reads : (k : Kind) (bytes : List ℕ) (phase : Phase) (depth : ℕ) → Reached k bytes (length bytes) phase depth → reads_from 0 (between (start k)) bytes ≡ ended_at phase (length bytes)
whole_reads k bytes phase depth r = rw (zero-add (length bytes)) (ap (λ o. option_and_then (λ last. ended_at last (length bytes)) o) (rw take-length at r.run))

-- the text ends early
pub ended_early : (k : Kind) (bytes : List ℕ) (phase : Phase) (depth : ℕ) → Reached k bytes (length bytes) phase depth → reads_from 0 (between (start k)) bytes ≡ None → FirstBad k bytes (length bytes) × KeepsLimits bytes (length bytes)
ended_early k bytes phase depth r e = (
  first_bad k bytes (length bytes) (record {
    within = omega arith;
    good = (phase, r.run);
    bad = λ l. absurd (omega arith);
    early = λ _. e;
  }),
  r.keeps,
)

-- what each fault says, and that a text within the limits meets none
module _ (k : Kind) (bytes : List ℕ) where
  pub refuses : (fault : FullFault) → FaultAt k bytes fault → RefusesAt fault (λ at. FirstBad k bytes at × KeepsLimits bytes at)
  refuses (Refused at) f = f
  refuses (TooDeep at) f = tt
  refuses (NameTooLong at) f = tt
  refuses NoMemory f = tt

  pub deepens : (fault : FullFault) → FaultAt k bytes fault → TooDeepAt fault (FirstTooDeep k bytes)
  deepens (Refused at) f = tt
  deepens (TooDeep at) f = f
  deepens (NameTooLong at) f = tt
  deepens NoMemory f = tt

  pub lengthens : (fault : FullFault) → FaultAt k bytes fault → NameTooLongAt fault (FirstTooLong k bytes)
  lengthens (Refused at) f = tt
  lengthens (TooDeep at) f = tt
  lengthens (NameTooLong at) f = f
  lengthens NoMemory f = tt

  pub only_memory : (fault : FullFault) → FaultAt k bytes fault → (p : Parsed) → kind_of p ≡ k → IsText bytes p → KeepsLimits bytes (length bytes) → IsWantOfMemory fault
  only_memory (Refused at) f p e t l = no_text k bytes at f.0 p e t
  only_memory (TooDeep at) f p e t l = not_deep k bytes at f l
  only_memory (NameTooLong at) f p e t l = not_long k bytes at f l
  only_memory NoMemory f p e t l = tt

-- the open word grows by a byte at most
pub longer_open : (p q : Phase) (b at : ℕ) → Some q ≡ next_phase p b at → length (open_word p) ≤ at → length (open_word q) ≤ at + 1
longer_open p q b at e l = rw (word_open_next p q b at (sym e)) (longer_by (is_part_byte b) (open_word p) b at l)

-- the open word is among the bytes
pub open_at : (k : Kind) (bytes : List ℕ) (at : ℕ) (phase : Phase) (depth : ℕ) → Reached k bytes at phase depth → at ≤ length bytes → length (open_word phase) ≤ at
open_at k bytes at phase depth r l = omega (arith, open_within (start k) (take at bytes) phase r.run, length-take at bytes)

-- what was read where all bytes are
pub ended : (k : Kind) (bytes : List ℕ) (phase : Phase) (depth : ℕ) (result : Result Read FullFault) → Reached k bytes (length bytes) phase depth → EndsAs phase (length bytes) result → Answers k bytes result
ended k bytes phase depth (Ok read) r e =
    let t = reads_text k bytes (parsed_of read) (whole_reads k bytes phase depth r ∙ e) in
    record { text = t.0; of_kind = t.1; keeps = r.keeps }
ended k bytes phase depth (Err (Refused place)) r e = rw e.0 (ended_early k bytes phase depth r (whole_reads k bytes phase depth r ∙ e.1))
ended k bytes phase depth (Err (TooDeep place)) r e = absurd e
ended k bytes phase depth (Err (NameTooLong place)) r e = absurd e
ended k bytes phase depth (Err NoMemory) r e = tt

-- a text is read as what it is a text of
pub read_as : (k : Kind) (bytes : List ℕ) (read : Read) → ReadsAs k bytes read → (p : Parsed) → kind_of p ≡ k → IsText bytes p → parsed_of read ≡ p
read_as k bytes read r p e t = one_reading bytes (parsed_of read) p (r.of_kind ∙ sym e) r.text t
