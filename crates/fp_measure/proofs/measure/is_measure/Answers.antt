use Rattle.std.proofs.Common.{◌∙◌, sym}
use Rattle.fp_measure.proofs.Tested.{decided}
use Rattle.fp_measure.proofs.measure.is_measure.Goals as goal

pub returns-in-Ok : goal.returns-in-Ok
returns-in-Ok c =
    decided c.args.ty.now c.args.term.now c.in-Ok.found c.in_ok-wanted.wanted c.in_ok-copy.field-0 c.in_ok-natural.field-0 c.equals.result c.equals.ensures
    (sym c.is_open.ensures ∙ c.if-is_open.false) c.in-Ok.ensures c.in_ok-wanted.ensures c.in_ok-copy.ensures c.in_ok-natural.ensures
