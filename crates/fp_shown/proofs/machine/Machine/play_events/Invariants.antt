use Rattle.std.proofs.Common.{◌≡◌, take}
use Rattle.fp_shown.specs.Machine.{Plays}
use Rattle.fp_shown.proofs.machine.Machine.play_events.Given as goal

abbrev pub invariant-loop-i : goal.invariant-loop-i
invariant-loop-i l = record {
  grid : l.self.grid ≡ l.initial.self.grid;
  verdicts : l.self.verdicts ≡ l.initial.self.verdicts;
  plays : Plays l.initial.self.grid l.initial.self.verdicts l.initial.self.states (take l.i l.events) l.self.states;
}
