use Rattle.std.proofs.Common.{◌∙◌, ap}
use Rattle.fp_conclude.specs.Shapes.{argument_in}
use Rattle.fp_quant.proofs.Parted.{existence_at, abstraction_at}
use Rattle.fp_quant.proofs.existential.select.Goals as goal

pub select_known-requires-clause-existence : goal.select_known-requires-clause-existence
select_known-requires-clause-existence c =
    existence_at c.args.defs.now c.args.a.now c.in-Some.ty.now c.in-Some.field-0-1.now c.argument_in.result.now c.requires c.concl.ensures.derived (rw (c.in-Some.is, c.concl.ensures.value) at c.in_ok-parts.ensures)
    (c.argument_in.ensures ∙ ap argument_in c.concl-2.ensures.value)

pub select_known-requires-clause-abstraction : goal.select_known-requires-clause-abstraction
select_known-requires-clause-abstraction c =
    abstraction_at c.args.defs.now c.args.a.now c.in-Some.ty.now c.in-Some.field-0-1.now c.argument_in.result.now c.requires c.concl.ensures.derived (rw (c.in-Some.is, c.concl.ensures.value) at c.in_ok-parts.ensures)
    (c.argument_in.ensures ∙ ap argument_in c.concl-2.ensures.value)
