use Rattle.std.proofs.Common.{take}
use Rattle.std.proofs.lemmas.Result.{IfOk-weaker}
use Rattle.fp_shown.specs.Machine.{IsPlayed, ClosedStays}
use Rattle.fp_shown.proofs.Plays.{plays_stay}
use Rattle.fp_shown.proofs.machine.Machine.play.Goals as goal

pub returns-clause-stays : goal.returns-clause-stays
returns-clause-stays c =
    let old = c.args.self.now in
    let new = c.play_events-played.new.self in
    let events = c.args.events.now in
    IfOk-weaker c.play_events-played.result (λ n. IsPlayed old events new n) (λ n. ClosedStays old.states new.states)
    (λ n p. plays_stay old.grid old.verdicts old.states new.states (take n events) p.plays) c.play_events-played.ensures
