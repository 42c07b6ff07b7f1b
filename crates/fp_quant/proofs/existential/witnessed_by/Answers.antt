use Rattle.std.proofs.Common.{◌∙◌, sym}
use Rattle.fp_kernel.specs.Start.{signature_of}
use Rattle.fp_quant.proofs.Chosen.{exists_predicate, exists_typed, witnessed_is}
use Rattle.fp_quant.proofs.existential.witnessed_by.Goals as goal

pub exists_known-requires-clause-predicate : goal.exists_known-requires-clause-predicate
exists_known-requires-clause-predicate c =
    exists_predicate c.args.defs.now c.args.term.now c.args.witness.now c.args.of_witness.now c.args.ty.now c.args.body.now c.requires.typed c.requires.parts

pub exists_known-requires-clause-typed : goal.exists_known-requires-clause-typed
exists_known-requires-clause-typed c =
    exists_typed (signature_of c.args.defs.now) c.args.term.now c.args.witness.now c.args.of_witness.now c.args.ty.now c.args.body.now
    c.requires.typed c.requires.parts (sym c.equals.ensures ∙ c.if-not-equals.false)

pub returns : goal.returns
returns c =
    witnessed_is c.args.defs.now c.args.a.now c.in_ok-exists_known.field-0 c.args.term.now c.args.witness.now c.args.of_witness.now c.args.ty.now c.args.body.now
    c.requires.parts (sym c.equals.ensures ∙ c.if-not-equals.false)
    (rw (c.in_ok-held.ensures, c.concl.ensures.value) at (sym c.same.ensures.value ∙ c.if-not-same.false)) c.in_ok-exists_known.ensures
