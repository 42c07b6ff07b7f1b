use Rattle.std.proofs.Common.{rules, ◌≡◌, true, refl}
use Rattle.fp_shown.specs.Machine.{none}
use Rattle.fp_shown.proofs.Plays.{played_more}
use Rattle.fp_shown.proofs.machine.Machine.play_events.Goals as goal

pub loop-i-init : goal.loop-i-init
loop-i-init c = record { grid = refl; verdicts = refl; plays = none c.args.self.now.states }

pub loop-i-preserved : goal.loop-i-preserved
loop-i-preserved c =
    let done_now : c.in_ok-done.done ≡ true = search rules in
    let i = c.loop-i.invariant in
    let t = played_more c.args.self.now c.loop-i.self c.step.new.self _ c.in_ok-done.done c.args.events.now c.loop-i.i c.in_ok-done.ensures.steps done_now i.grid i.verdicts i.plays c.loop-i-test.true (search rules) in
    record { grid = t.0; verdicts = t.1; plays = t.2 }
