use Rattle.std.proofs.Common.{refl, arith}
use Rattle.fp_theory.proofs.Marks.{extends_itself}
use Rattle.fp_fun.proofs.Readying.{ready_at}
use Rattle.fp_fun.proofs.noting.note_each.Goals as goal

pub loop-named-init : goal.loop-named-init
loop-named-init c = (extends_itself c.args.theory.now, refl)

pub note_one-requires : goal.note_one-requires
note_one-requires c =
    rw c.loop-named.invariant.1
    (ready_at c.args.theory.now.defs c.args.theorems.now c.loop-named.named-index c.named-item.result c.named-item.is (omega (arith, c.loop-named-test.true)) c.requires)
