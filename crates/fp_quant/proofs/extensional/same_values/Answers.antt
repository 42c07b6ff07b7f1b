use Rattle.std.proofs.Common.{sym}
use Rattle.fp_quant.proofs.Accepted.{both_shapes}
use Rattle.fp_quant.proofs.extensional.same_values.Goals as goal

pub same_functions-requires-clause-shape : goal.same_functions-requires-clause-shape
same_functions-requires-clause-shape c =
    let s = c.args.sides.now in
    both_shapes c.args.name.now c.args.ty.now s.ty.now c.args.a.now.concl s.left.now s.right.now c.in-Some.left.now c.in-Some-2.right.now
    c.requires.shape (sym (rw c.in-Some.is at c.in_ok-left.ensures)) (sym (rw c.in-Some-2.is at c.in_ok-right.ensures))
