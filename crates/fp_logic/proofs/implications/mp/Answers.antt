use Rattle.std.proofs.Common.{sym}
use Rattle.std.specs.Prelude.{codes}
use Rattle.fp_logic.proofs.Shaped.{joined, mp_shape}
use Rattle.fp_logic.proofs.implications.mp.Goals as goal

pub modus-requires-clause-implication : goal.modus-requires-clause-implication
modus-requires-clause-implication c =
    joined (codes "imp") c.args.defs.now c.args.a.now c.concl-3.result.now c.in_ok-concl.concl c.requires.first_within c.concl.ensures.derived
    (mp_shape c.args.a.now.concl c.concl-3.result.now c.in_ok-concl.concl (rw (c.concl.ensures.value, c.concl-2.ensures.value, ← c.concl-3.ensures.value) at c.in_ok-concl.ensures))

pub modus-requires-clause-premise : goal.modus-requires-clause-premise
modus-requires-clause-premise c = sym c.concl-3.ensures.value
