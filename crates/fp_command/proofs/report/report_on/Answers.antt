use Rattle.fp_report.specs.declared.reason.Kind.TheVariants.{BadByte, OpenQuote, NameTooLong}
use Rattle.fp_report.specs.declared.reason.Reason.TheVariants.{Plain}
use Rattle.fp_command.specs.Report.{has_bad_byte, has_open_quote, has_long_name}
use Rattle.fp_command.proofs.Reporting.{report_unread}
use Rattle.fp_command.proofs.report.report_on.Goals as goal

pub report_tokens-requires : goal.report_tokens-requires
report_tokens-requires g c = rw c.deref.ensures.value c.in-Ok.ensures.found

pub returns-in-Err-BadByte : goal.returns-in-Err-BadByte
returns-in-Err-BadByte g c =
    report_unread c.args.full c.args.name.now c.args.bytes.now _ c.in-Err-BadByte.at (Plain BadByte) c.unread.result
    (has_bad_byte c.in-Err-BadByte.at (rw c.in-Err-BadByte.field-0-is at c.in-Err-BadByte.ensures.found)) c.unread.ensures

pub returns-in-Err-OpenQuote : goal.returns-in-Err-OpenQuote
returns-in-Err-OpenQuote g c =
    report_unread c.args.full c.args.name.now c.args.bytes.now _ c.in-Err-OpenQuote.at (Plain OpenQuote) c.unread-in-Err-OpenQuote.result
    (has_open_quote c.in-Err-OpenQuote.at (rw c.in-Err-OpenQuote.field-0-is at c.in-Err-OpenQuote.ensures.found)) c.unread-in-Err-OpenQuote.ensures

pub returns-in-Err-NameTooLong : goal.returns-in-Err-NameTooLong
returns-in-Err-NameTooLong g c =
    report_unread c.args.full c.args.name.now c.args.bytes.now _ c.in-Err-NameTooLong.at (Plain NameTooLong) c.unread-in-Err-NameTooLong.result
    (has_long_name c.in-Err-NameTooLong.at (rw c.in-Err-NameTooLong.field-0-is at c.in-Err-NameTooLong.ensures.found)) c.unread-in-Err-NameTooLong.ensures
