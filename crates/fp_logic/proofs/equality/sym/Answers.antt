use Rattle.fp_logic.proofs.Applied.{its_right}
use Rattle.fp_logic.proofs.equality.sym.Goals as goal

pub sym_known-requires-clause-equation : goal.sym_known-requires-clause-equation
sym_known-requires-clause-equation c = its_right c.args.a.now.concl c.in-Some.parts.ty.now c.in-Some.parts.left.now c.in-Some.parts.right.now (rw c.concl.ensures.value at c.in-Some.ensures.exact)
