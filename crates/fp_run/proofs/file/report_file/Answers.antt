use Rattle.std.proofs.Common.{◌≡◌, Err, ap, length, vec_len, arith}
use Rattle.fp_run.specs.Report.{fits, too_long}
use Rattle.fp_run.proofs.file.report_file.Goals as goal

pub returns-in_ok-text-in-Ok-clause-reports : goal.returns-in_ok-text-in-Ok-clause-reports
returns-in_ok-text-in-Ok-clause-reports g c =
    let all : length c.in-Ok.bytes.items ≡ vec_len c.in-Ok.bytes = omega (arith, c.deref.ensures.len, ap length c.deref.ensures.value) in
    rw (c.len.ensures, ← all)
    (fits c.in-Ok.bytes.items c.in-Ok.ensures.whole c.in-Ok.ensures.fits (rw c.deref.ensures.value at c.in_ok-text-in-Ok.ensures))

pub returns-in_ok-text-in-Err-TooLong-clause-reports : goal.returns-in_ok-text-in-Err-TooLong-clause-reports
returns-in_ok-text-in-Err-TooLong-clause-reports g c =
    let text = c.in_ok-text-in-Err-TooLong.ensures in
    rw (text.0, text.1) (too_long (c.in-Err-TooLong.ensures.too_long (ap Err c.in-Err-TooLong.field-0-is)))
