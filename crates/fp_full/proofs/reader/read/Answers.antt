use Rattle.std.proofs.Common.{◌≡◌, length, arith}
use Rattle.fp_full.specs.Views.{asked, phase_of}
use Rattle.fp_full.proofs.Answering.{open_at, stopped, advanced, ended}
use Rattle.fp_full.proofs.reader.read.Goals as goal

pub advance-requires-clause-open : goal.advance-requires-clause-open
advance-requires-clause-open c =
    open_at (asked c.args.kind) c.args.bytes.now c.loop-at.at (phase_of c.loop-at.progress.phase) c.loop-at.progress.depth c.loop-at.invariant c.loop-at.auto.at-end

pub returns-in-Err : goal.returns-in-Err
returns-in-Err c =
    stopped (asked c.args.kind) c.args.bytes.now c.loop-at.at (phase_of c.loop-at.progress.phase) c.loop-at.progress.depth c.loop-at.invariant c.in-Err.fault c.loop-at-test.true c.in-Err.ensures

pub loop-at-preserved : goal.loop-at-preserved
loop-at-preserved c =
    advanced (asked c.args.kind) c.args.bytes.now c.loop-at.at (phase_of c.loop-at.progress.phase) c.loop-at.progress.depth c.loop-at.invariant (phase_of c.in-Ok.next.phase) c.in-Ok.next.depth c.loop-at-test.true c.in-Ok.ensures

pub returns : goal.returns
returns c =
    let here : c.loop-at.at ≡ length c.args.bytes.now = omega arith in
    ended (asked c.args.kind) c.args.bytes.now (phase_of c.loop-at.progress.phase) c.loop-at.progress.depth c.finish.result (rw here at c.loop-at.invariant) c.finish.ensures
