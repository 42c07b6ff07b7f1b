use Rattle.std.proofs.Common.{subst}
use Rattle.fp_conclude.specs.Outcomes.{Answers}
use Rattle.fp_kernel.specs.Start.{signature_of}
use Rattle.fp_kernel.specs.Theorems.{from_one}
use Rattle.fp_quant.proofs.Chosen.{witnessed_is_exists}
use Rattle.fp_quant.proofs.existential.exists.Goals as goal

pub witnessed_by-requires-clause-typed : goal.witnessed_by-requires-clause-typed
witnessed_by-requires-clause-typed c = rw c.signature.ensures at c.in_ok-of_witness.ensures

pub witnessed_by-requires-clause-parts : goal.witnessed_by-requires-clause-parts
witnessed_by-requires-clause-parts c = rw c.in-Some.is at c.in_ok-parts.ensures

pub returns : goal.returns
returns c =
    subst (λ o. Answers c.witnessed_by.result (from_one c.args.defs.now c.args.a.now c.args.a.now.hyps o))
    (witnessed_is_exists (signature_of c.args.defs.now) c.args.term.now c.args.witness.now c.args.a.now.concl c.in_ok-of_witness.of_witness (c.in-Some.ty.now, c.in-Some.body.now)
    (rw c.signature.ensures at c.in_ok-of_witness.ensures) (rw c.in-Some.is at c.in_ok-parts.ensures))
    c.witnessed_by.ensures
