-- From what the steps of a report answer to the report.
use Rattle.std.proofs.Common.{◌≡◌, ℕ, List, Bool, true, Result, Ok, Err, IfOk}
use Rattle.fp_commands.specs.declared.command.Command.{Command}
use Rattle.fp_report.specs.declared.reason.Reason.{Reason}
use Rattle.fp_report.specs.Reasons.{refusal_line}
use Rattle.fp_command.specs.Outcome.{Session}
use Rattle.fp_command.specs.declared.report.Text.{Text}
use Rattle.fp_syntax.specs.Files.{Reads}
use Rattle.fp_command.specs.Report.{Carries, IsFileFault, IsReport, carried, unread}

pub report_carried : {E : Type 0} (full : Bool) (file bytes : List ℕ) (s t : Session) (cs : List Command) (r : Result Text E) → Reads bytes cs →
    IfOk r (λ x. Carries full file s cs x.bytes.items x.refused t) → IfOk r (λ x. IsReport full file bytes s x.bytes.items x.refused t)
report_carried full file bytes s t cs (Ok x) d c = carried cs d c
report_carried full file bytes s t cs (Err e) d c = tt

pub report_unread : {E : Type 0} (full : Bool) (file bytes : List ℕ) (s : Session) (at : ℕ) (reason : Reason) (r : Result Text E) → IsFileFault bytes at reason →
    IfOk r (λ x. (x.bytes.items ≡ refusal_line full file at reason) × (x.refused ≡ true)) → IfOk r (λ x. IsReport full file bytes s x.bytes.items x.refused s)
report_unread full file bytes s at reason (Ok x) f c = rw (c.0, c.1) (unread at reason f)
report_unread full file bytes s at reason (Err e) f c = tt
