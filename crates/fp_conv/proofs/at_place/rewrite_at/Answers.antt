use Rattle.std.proofs.Common.{subst}
use Rattle.fp_conclude.specs.Outcomes.{Answers}
use Rattle.fp_kernel.specs.Start.{signature_of}
use Rattle.fp_kernel.specs.Theorems.{from_one}
use Rattle.fp_conv.proofs.Rewriting.{found_typed, put_is_rewrite}
use Rattle.fp_conv.proofs.at_place.rewrite_at.Goals as goal

pub rewritten_at-requires-clause-typed : goal.rewritten_at-requires-clause-typed
rewritten_at-requires-clause-typed c =
    found_typed (signature_of c.args.defs.now) c.args.term.now c.in_ok-typed_over.field-0 (rw c.signature.ensures at c.in_ok-typed_over.ensures)

pub returns : goal.returns
returns c =
    let e = c.in-Some.sides in
    let s = c.in_ok-typed_over.field-0 in
    let typed = rw c.signature.ensures at c.in_ok-typed_over.ensures in
    subst (λ o. Answers c.rewritten_at.result (from_one c.args.defs.now c.args.eq.now c.args.eq.now.hyps o))
    (put_is_rewrite (signature_of c.args.defs.now) c.args.place.now c.args.eq.now.concl c.args.term.now s (e.ty.now, e.left.now, e.right.now) typed (rw c.concl.ensures.value at c.in-Some.ensures.parts))
    (c.rewritten_at.ensures s typed)
