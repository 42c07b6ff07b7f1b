use Rattle.fp_term.proofs.FunctionTypes.{one_before}
use Rattle.fp_term.proofs.typing.function_of_all.Goals as goal

pub loop-at-preserved : goal.loop-at-preserved
loop-at-preserved c =
    rw (c.in_ok-made.ensures, c.in_ok-ty.ensures)
    (one_before c.args.from.now c.loop-at.at c.index-from-from.result c.loop-at.made _ c.loop-at-test.true c.index-from-from.is c.loop-at.invariant)
