use Rattle.fp_simp.proofs.Tasks.{more_or_not, answer_or_not}
use Rattle.fp_simp.proofs.task.SimpTask.run_steps.Goals as goal

pub invariant_of-self-2 : goal.invariant_of-self-2
invariant_of-self-2 c = c.in_ok-live-2.ensures.follows _ c.self.inside.steps (rw c.in_ok-live.ensures.ok at c.self.invariant)

pub returns-clause-none : goal.returns-clause-none
returns-clause-none c =
    rw (← c.self.view_is) (more_or_not _ c.in_ok-live-2.live _ c.in_ok-live-2.simped (c.in_ok-live-2.ensures.follows _ c.self.inside.steps (rw c.in_ok-live.ensures.ok at c.self.invariant)) c.in_ok-live-2.ensures.none)

pub returns-clause-some : goal.returns-clause-some
returns-clause-some c =
    rw (← c.self.view_is) (answer_or_not _ c.in_ok-live-2.live c.in_ok-live-2.simped (c.in_ok-live-2.ensures.follows _ c.self.inside.steps (rw c.in_ok-live.ensures.ok at c.self.invariant)) c.in_ok-live-2.ensures.some)
