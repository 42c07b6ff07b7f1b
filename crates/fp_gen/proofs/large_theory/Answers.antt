use Rattle.std.proofs.Common.{arith}
use Rattle.fp_gen.specs.Generated.{lines_after}
use Rattle.fp_gen.proofs.Lines.{goes_on}
use Rattle.fp_gen.proofs.large_theory.Goals as goal

pub loop-left-preserved : goal.loop-left-preserved
loop-left-preserved c =
    goes_on c.loop-left.i c.loop-left.left c.args.n c.loop-left.word c.next_word-word.result c.loop-left.text.items c.push_line.new.text.items (lines_after 0 c.args.seed c.args.n)
    (omega (arith, c.loop-left-test.true)) c.next_word-word.ensures c.loop-left.invariant.0 c.loop-left.invariant.1 c.in_ok-push_line.ensures
