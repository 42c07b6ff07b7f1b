-- What is told of a refusal, when more is known.
use Rattle.std.proofs.Common.{◌≡◌, ℕ, refl}
use Rattle.fp_report.specs.declared.reason.Reason.{Reason}
use Rattle.fp_report.specs.Reasons.{IsShownReason}
use Rattle.fp_theory.specs.State.{State}
use Rattle.fp_command.specs.declared.fault.CommandFault.{CommandFault}
use Rattle.fp_command.specs.declared.fault.CommandFault.TheVariants.{Refused, NoMemory}
use Rattle.fp_command.specs.Answers.{Shows, Leaves, IsRefusal}

-- what is shown gives more, if each such refusal does
pub shows_then : (P Q : ℕ → Reason → Type 0) (fault : CommandFault) → Shows P fault → ((at : ℕ) (reason : Reason) → P at reason → Q at reason) → Shows Q fault
shows_then P Q (Refused r) s f = (f r.at r.reason s.0, s.1)
shows_then P Q NoMemory s f = tt

-- and where the state is as before
pub leaves_then : (s t : State) (P Q : ℕ → Reason → Type 0) (fault : CommandFault) → Shows P fault → t ≡ s → ((at : ℕ) (reason : Reason) → P at reason → Q at reason) → Leaves s t Q fault
leaves_then s t P Q (Refused r) sh same f = (f r.at r.reason sh.0, sh.1, same)
leaves_then s t P Q NoMemory sh same f = tt

pub leaves_more : (s t : State) (P Q : ℕ → Reason → Type 0) (fault : CommandFault) → Leaves s t P fault → ((at : ℕ) (reason : Reason) → P at reason → Q at reason) → Leaves s t Q fault
leaves_more s t P Q (Refused r) l f = (f r.at r.reason l.0, l.1, l.2)
leaves_more s t P Q NoMemory l f = tt

-- exactly one refusal
pub leaves_one : (s t : State) (Q : ℕ → Reason → Type 0) (fault : CommandFault) (at : ℕ) (reason : Reason) → IsRefusal at reason fault → IsShownReason reason → t ≡ s → Q at reason → Leaves s t Q fault
leaves_one s t Q (Refused r) at reason is shown same q = (rw (is.0, is.1) q, rw is.1 shown, same)
leaves_one s t Q NoMemory at reason is shown same q = absurd is

pub shows_one : (Q : ℕ → Reason → Type 0) (fault : CommandFault) (at : ℕ) (reason : Reason) → IsRefusal at reason fault → IsShownReason reason → Q at reason → Shows Q fault
shows_one Q (Refused r) at reason is shown q = (rw (is.0, is.1) q, rw is.1 shown)
shows_one Q NoMemory at reason is shown q = absurd is

-- nothing is done
pub leaves_same : {S : Type 0} (s : S) (P : ℕ → Reason → Type 0) (fault : CommandFault) → Shows P fault → Leaves s s P fault
leaves_same s P (Refused r) sh = (sh.0, sh.1, refl)
leaves_same s P NoMemory sh = tt
