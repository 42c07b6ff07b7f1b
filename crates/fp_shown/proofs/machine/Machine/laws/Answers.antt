use Rattle.fp_shown.proofs.Plays.{cancelled_free, closed_result}
use Rattle.fp_shown.proofs.machine.Machine.laws.Goals as goal

pub returns-clause-board : goal.returns-clause-board
returns-clause-board c = rw (← c.self.view_is) c.self.invariant.0

pub returns-clause-free : goal.returns-clause-free
returns-clause-free c = rw (← c.self.view_is) (cancelled_free _ c.self.invariant.0)

pub returns-clause-closed : goal.returns-clause-closed
returns-clause-closed c = rw (← c.self.view_is) (closed_result _ c.self.invariant.0)
