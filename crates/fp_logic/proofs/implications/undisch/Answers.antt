use Rattle.std.specs.Prelude.{codes}
use Rattle.fp_logic.proofs.Shaped.{joined_parts}
use Rattle.fp_logic.proofs.implications.undisch.Goals as goal

pub undisch_known-requires : goal.undisch_known-requires
undisch_known-requires c = joined_parts (codes "imp") c.args.defs.now c.args.a.now (c.in-Some.left.now, c.in-Some.right.now) c.requires c.concl.ensures.derived (rw (c.in-Some.is, c.concl.ensures.value) at c.in_ok-parts.ensures)
