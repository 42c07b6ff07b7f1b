use Rattle.fp_command.specs.Report.{is_unreadable}
use Rattle.fp_command.proofs.Reporting.{report_carried, report_unread}
use Rattle.fp_command.proofs.report.report_tokens.Goals as goal

pub returns-in-Ok : goal.returns-in-Ok
returns-in-Ok g c =
    report_carried c.args.full c.args.name.now c.args.bytes.now _ _ c.in-Ok.commands c.carry_all.result c.in-Ok.ensures.reads
    (rw c.as_slice.ensures at c.carry_all.ensures)

pub unread-requires : goal.unread-requires
unread-requires g c = c.in_ok-refusal-in-Err.ensures.1

pub returns-in_ok-refusal-in-Err : goal.returns-in_ok-refusal-in-Err
returns-in_ok-refusal-in-Err g c =
    let r = c.in_ok-refusal-in-Err.refusal in
    report_unread c.args.full c.args.name.now c.args.bytes.now _ r.at r.reason c.unread.result
    (is_unreadable c.args.tokens.now r.at r.reason c.requires (c.in-Err.fault, c.in_ok-refusal-in-Err.ensures.0)) c.unread.ensures
