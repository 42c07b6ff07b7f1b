use Rattle.std.proofs.Common.{[]}
use Rattle.fp_print.proofs.Loose.{typed_has_only}
use Rattle.fp_tests.proofs.print.typed_term.Goals as goal

pub returns-in-Ok : goal.returns-in-Ok
returns-in-Ok c = typed_has_only [] c.in_ok-term.term c.in-Ok._ty c.in-Ok.ensures.type_is
