use Rattle.std.proofs.Common.{◌∙◌, sym}
use Rattle.fp_kernel.specs.Start.{signature_of}
use Rattle.fp_quant.proofs.Accepted.{accepted_typed}
use Rattle.fp_quant.proofs.general.specialized_at.Goals as goal

pub spec_known-requires-clause-typed : goal.spec_known-requires-clause-typed
spec_known-requires-clause-typed c = accepted_typed (signature_of c.args.defs.now) c.args.term.now c.args.of_term.now c.args.ty.now c.requires.typed (sym c.equals.ensures ∙ c.if-not-equals.false)
