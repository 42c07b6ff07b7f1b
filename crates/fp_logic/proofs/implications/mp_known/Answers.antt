use Rattle.std.proofs.Common.{sym}
use Rattle.std.specs.Prelude.{codes}
use Rattle.fp_conclude.specs.Shapes.{right}
use Rattle.fp_logic.proofs.Shaped.{joined}
use Rattle.fp_logic.proofs.implications.mp_known.Goals as goal

pub modus-requires-clause-implication : goal.modus-requires-clause-implication
modus-requires-clause-implication c =
    rw (c.right.ensures, c.concl-2.ensures.value, c.concl.ensures.value)
    (joined (codes "imp") c.args.defs.now c.args.a.now c.args.b.now.concl (right c.args.a.now.concl) c.requires.first_within c.concl-2.ensures.derived c.requires.shape)

pub modus-requires-clause-premise : goal.modus-requires-clause-premise
modus-requires-clause-premise c = sym c.concl.ensures.value

pub returns : goal.returns
returns c = rw (c.right.ensures, c.concl-2.ensures.value) at c.modus.ensures
