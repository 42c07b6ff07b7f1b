use Rattle.std.proofs.Common.{◌≡◌, true, ◌+◌, ◌*◌}
use Rattle.fp_term.specs.Terms.{Tm}
use Rattle.fp_rewriting.specs.declared.left.Left.{Left}
use Rattle.fp_simp.specs.Known.{known}
use Rattle.fp_simp.specs.Observing.{term_of}
use Rattle.fp_simp.specs.Remaining.{Ends, weight}
use Rattle.fp_simp.proofs.running.Running.advance.Given as goal

abbrev pub invariant-work : goal.invariant-work
invariant-work g l = record {
  same : (u : Tm) (m : Left) → Ends (known l.self.context) l.self.guards l.self.goal l.self.in_goal l.self.walk.frames l.mode l.self.walk.left u m → Ends (known l.initial.self.context) l.initial.self.guards l.initial.self.goal l.initial.self.in_goal l.initial.self.walk.frames l.fn.start l.initial.self.walk.left u m;
  steps : l.self.walk.left.steps + l.left ≡ l.initial.self.walk.left.steps + l.fn.steps;
  goal : l.self.goal ≡ l.initial.self.goal;
  followed : (l.initial.self.in_goal ≡ true → g.O.Observer.follows l.initial.observer (known l.initial.self.context) l.initial.self.goal l.initial.self.walk.frames (term_of l.fn.start)) → l.self.in_goal ≡ true → g.O.Observer.follows l.observer (known l.self.context) l.self.goal l.self.walk.frames (term_of l.mode);
}

abbrev pub decreases-work : goal.decreases-work
decreases-work g l = weight l.self.guards l.self.in_goal l.self.walk.frames l.mode + 2 * l.left
