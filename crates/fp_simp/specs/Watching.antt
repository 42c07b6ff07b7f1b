-- Where a simplification that is observed begins, and where it ends.
use Rattle.std.specs.Prelude.{◌≡◌, true, []}
use Rattle.fp_term.specs.Terms.{Tm}
use Rattle.fp_simp.specs.declared.running.Live.{Live}
use Rattle.fp_rewriting.specs.Simplification.{Known}
use Rattle.fp_simp.specs.Observing.{term_of}

-- the goal, where it is already next, is what is entered at the start
pub record Begins (goal : Tm) (live : Live) : Type 0 where
  pub asked : live.running.goal ≡ goal
  pub bottom : live.running.walk.frames ≡ []
  pub enters : live.running.in_goal ≡ true → term_of live.mode ≡ goal

-- there is something known of which that holds
pub record Watched (holds : Known → Type 0) : Type 0 where
  pub knows : Known
  pub is : holds knows
