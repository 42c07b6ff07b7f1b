use Rattle.std.proofs.Common.{◌∙◌, refl, sym}
use Rattle.fp_simp.proofs.Tasks.{begins_guard, begins_goal}
use Rattle.fp_simp.proofs.task.start.Goals as goal

pub returns-in-Some-clause-follows : goal.returns-in-Some-clause-follows
returns-in-Some-clause-follows c = begins_guard _ _ c.in-Some.guard (sym c.in_ok-guards.ensures ∙ c.in-Some.ensures) (rw (c.in_ok-names_of.ensures, c.new.ensures) refl) c.in_ok-goal.ensures refl c.new-walk.ensures.frames refl c.new-walk.ensures.left

pub returns-in_ok-copy-in-None-clause-follows : goal.returns-in_ok-copy-in-None-clause-follows
returns-in_ok-copy-in-None-clause-follows c = begins_goal _ _ (sym c.in_ok-guards.ensures ∙ c.in-None.ensures.0) c.in-None.ensures.1 (rw (c.in_ok-names_of.ensures, c.new.ensures) refl) c.in_ok-goal.ensures refl c.new-walk.ensures.frames (rw (c.in_ok-copy-in-None.ensures, c.in_ok-goal.ensures) refl) c.new-walk.ensures.left
