-- What is left to do of a simplification under way.
use Rattle.std.specs.Prelude.{ℕ, ◌+◌, Bool, true, false, not, ◌==◌, if◌then◌else◌, List, [], ◌∷◌, length}
use Rattle.fp_term.specs.Terms.{Tm}
use Rattle.fp_rewriting.specs.declared.left.Left.{Left}
use Rattle.fp_simp.specs.declared.frame.Frame.{Frame}
use Rattle.fp_simp.specs.declared.frame.Mode.{Mode}
use Rattle.fp_simp.specs.declared.frame.Mode.TheVariants.{Enter, Rewrite, Return}
use Rattle.fp_rewriting.specs.Simplification.{Known}
use Rattle.fp_rewriting.specs.Settling.{with_facts, Settles}
use Rattle.fp_simp.specs.Waiting.{Finishes}
use Rattle.fp_simp.specs.Known.{handing}

-- `Ends k gs goal in_goal fs mode l u m`: what comes of the guard or the goal that is simplified now, and of what is left after it
pub data Ends : Known → List Tm → Tm → Bool → List Frame → Mode → Left → Tm → Left → Type 0 where
  ends_goal : {fs : List Frame} {mode : Mode} {l m : Left} (k : Known) (gs : List Tm) (goal u : Tm) → Finishes k fs mode l u m → Ends k gs goal true fs mode l u m
  ends_guard : {fs : List Frame} {mode : Mode} {l m n : Left} (k : Known) (gs : List Tm) (goal h u : Tm) → Finishes k fs mode l h n →
      Settles (with_facts k h) gs goal n u m → Ends k gs goal false fs mode l u m

-- is it a step to do this?
abbrev pub is_step : Mode → Bool
is_step (Enter t) = true
is_step (Rewrite t) = true
is_step (Return t) = false

-- is all done?
abbrev pub is_over : Bool → List Frame → Mode → Bool
is_over in_goal fs (Enter t) = false
is_over in_goal fs (Rewrite t) = false
is_over in_goal [] (Return t) = in_goal
is_over in_goal (f ∷ fs) (Return t) = false

-- by this the work that is no step falls
abbrev pub weight : List Tm → Bool → List Frame → Mode → ℕ
weight gs in_goal fs mode = length gs + (if in_goal then 0 else 1) + length fs + handing mode

-- the steps that it is to do this
abbrev pub cost : Mode → ℕ
cost (Enter t) = 1
cost (Rewrite t) = 1
cost (Return t) = 0

-- is there something to do, within so many steps?
abbrev pub goes_on : Bool → List Frame → ℕ → Mode → Bool
goes_on in_goal fs n (Enter t) = not (n == 0)
goes_on in_goal fs n (Rewrite t) = not (n == 0)
goes_on in_goal [] n (Return t) = not in_goal
goes_on in_goal (f ∷ fs) n (Return t) = true
