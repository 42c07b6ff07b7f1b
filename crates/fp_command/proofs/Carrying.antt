-- The text so far, and what the commands that are left give.
use Rattle.std.proofs.Common.{◌≡◌, ℕ, List, [], ◌∷◌, ◌++◌, Bool, true, false, append_assoc, append-nil}
use Rattle.fp_commands.specs.declared.command.Command.{Command}
use Rattle.fp_report.specs.Items.{item_lines}
use Rattle.fp_report.specs.Reasons.{refusal_line}
use Rattle.fp_command.specs.Outcome.{Session}
use Rattle.fp_command.specs.Report.{Carries, done, accepted, stopped}
use Rattle.fp_command.specs.Steps.{Steps, goes, stops}

-- whatever the commands that are left give, all of them give it after the text so far
pub record Carried (full : Bool) (file : List ℕ) (first : Session) (all : List Command) (s : Session) (left : List Command) (text : List ℕ) : Type 0 where
  pub whole : (rest : List ℕ) (ends : Bool) (t : Session) → Carries full file s left rest ends t → Carries full file first all (text ++ rest) ends t

pub carried_none : (full : Bool) (file : List ℕ) (first : Session) (all : List Command) (text : List ℕ) → text ≡ [] → Carried full file first all first all text
carried_none full file first all text e = rw e (record { whole = λ rest ends t c. c })

pub carried_more : (full : Bool) (file : List ℕ) (first : Session) (all : List Command) (s t : Session) (c : Command) (left : List Command) (text more : List ℕ) →
    Carried full file first all s (c ∷ left) text → Steps full file s t c text more false → Carried full file first all t left more
carried_more full file first all s t c left text more carried (goes items a e) = record {
  whole = λ rest ends u q. rw (e, append_assoc text (item_lines full items) rest) (carried.whole (item_lines full items ++ rest) ends u (accepted c items a q));
}

pub carried_refused : (full : Bool) (file : List ℕ) (first : Session) (all : List Command) (s t : Session) (c : Command) (left : List Command) (text more : List ℕ) →
    Carried full file first all s (c ∷ left) text → Steps full file s t c text more true → Carries full file first all more true t
carried_refused full file first all s t c left text more carried (stops at reason r same e) = rw (e, same) (carried.whole (refusal_line full file at reason) true s (stopped c at reason r))

pub carried_all : (full : Bool) (file : List ℕ) (first : Session) (all : List Command) (s : Session) (text : List ℕ) → Carried full file first all s [] text → Carries full file first all text false s
carried_all full file first all s text carried = rw (← append-nil text) (carried.whole [] false s done)
