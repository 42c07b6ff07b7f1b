-- What contracts see of a task.
use Rattle.std.specs.Prelude.{◌≡◌, ◌<◌, ℕ, Bool, List, Option, Some, None, refl}
use Rattle.std.specs.Coded.{Coded, code_by, coded_list, coded×, coded_ℕ, coded_bool}
use Rattle.fp_term.specs.Terms.{Tm}
use Rattle.fp_term.specs.Codes.{coded_term}
use Rattle.fp_rewriting.specs.declared.rule.Rule.{Rule}
use Rattle.fp_rewriting.specs.declared.left.Left.{Left}
use Rattle.fp_simp.specs.declared.running.Live.{Live}
use Rattle.fp_simp.specs.declared.simped.Simped.{Simped}
use Rattle.fp_rewriting.specs.Codes.{coded_rules}
use Rattle.fp_simp.specs.Results.{ResultOf}
use Rattle.fp_simp.specs.Known.{known}
use Rattle.fp_rewriting.specs.Settling.{Question, IsSimplified}
use Rattle.fp_simp.specs.Remaining.{Ends}

-- what is asked for, how many steps were done, and whether memory was wanting
pub record Task : Type 0 where
  pub asked : Question
  pub steps : ℕ
  pub failed : Bool

abbrev pub Parts : Type 0
Parts = List Rule × (List Tm × (Tm × ((ℕ × ℕ) × (ℕ × Bool))))

abbrev pub coded_parts : Coded Parts
coded_parts = coded× coded_rules (coded× (coded_list coded_term) (coded× coded_term (coded× (coded× coded_ℕ coded_ℕ) (coded× coded_ℕ coded_bool))))

abbrev pub coded_task : Coded Task
coded_task = code_by Parts coded_parts
    (λ t. (t.asked.rules, (t.asked.guards, (t.asked.goal, ((t.asked.fuel, t.asked.room), (t.steps, t.failed))))))
    (λ p. record { asked = record { rules = p.0; guards = p.1.0; fuel = p.1.1.1.0.0; room = p.1.1.1.0.1; goal = p.1.1.0 }; steps = p.1.1.1.1.0; failed = p.1.1.1.1.1 })
    (λ t. refl)

-- what is under way answers the question, after so many steps
pub record Follows (q : Question) (steps : ℕ) (live : Live) : Type 0 where
  pub counted : live.running.walk.left.steps ≡ steps
  pub same : (u : Tm) (m : Left) → Ends (known live.running.context) live.running.guards live.running.goal live.running.in_goal live.running.walk.frames live.mode live.running.walk.left u m → IsSimplified q u m

abbrev pub IsLive : Question → ℕ → Option Live → Type 0
IsLive q steps None = Unit {0}
IsLive q steps (Some live) = Follows q steps live

-- the answer of a question after so many steps
abbrev pub IsAnswerAfter : Question → ℕ → Simped → Type 0
IsAnswerAfter q steps s = IsSimplified q s.term (record { fuel = s.fuel; room = s.room; steps = steps })

-- the answer of a question
pub record IsAnswer (q : Question) (s : Simped) : Type 0 where
  pub steps : ℕ
  pub is : IsAnswerAfter q steps s

-- no answer has so few steps
abbrev pub HasMore : Question → ℕ → Type 0
HasMore q steps = (u : Tm) (m : Left) → IsSimplified q u m → steps < m.steps

-- a task that is over has a result
abbrev pub IsResult : Live → Simped → Type 0
IsResult live s = ResultOf s live.running.in_goal live.running.walk.frames live.mode live.running.walk.left
