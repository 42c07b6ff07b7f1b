use Rattle.std.specs.Prelude.{codes}
use Rattle.fp_logic.proofs.Shaped.{joined_parts}
use Rattle.fp_logic.proofs.conjunctions.conj2.Goals as goal

pub conj2_known-requires : goal.conj2_known-requires
conj2_known-requires c = joined_parts (codes "and") c.args.defs.now c.args.a.now (c.in-Some.left.now, c.in-Some.right.now) c.requires c.concl.ensures.derived (rw (c.in-Some.is, c.concl.ensures.value) at c.in_ok-parts.ensures)
