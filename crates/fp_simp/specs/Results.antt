-- The result of what is over.
use Rattle.std.specs.Prelude.{◌≡◌, Bool, true, List, []}
use Rattle.fp_rewriting.specs.declared.left.Left.{Left}
use Rattle.fp_simp.specs.declared.simped.Simped.{Simped}
use Rattle.fp_simp.specs.declared.frame.Frame.{Frame}
use Rattle.fp_simp.specs.declared.frame.Mode.{Mode}
use Rattle.fp_simp.specs.declared.frame.Mode.TheVariants.{Return}

-- the goal is done, nothing waits, and the result is what is handed back, with what is left
pub record ResultOf (s : Simped) (in_goal : Bool) (fs : List Frame) (mode : Mode) (l : Left) : Type 0 where
  pub goal : in_goal ≡ true
  pub bottom : fs ≡ []
  pub returns : mode ≡ Return s.term
  pub fuel : s.fuel ≡ l.fuel
  pub room : s.room ≡ l.room
