-- A task under way keeps its answer.
use Rattle.std.proofs.Common.{◌≡◌, ℕ, Bool, true, false, [], ◌∷◌, refl, ap}
use Rattle.std.specs.Prelude.{Option, Some, None}
use Rattle.std.specs.Option.{IfNone, IfSome}
use Rattle.fp_term.specs.Terms.{Tm}
use Rattle.fp_rewriting.specs.declared.left.Left.{Left}
use Rattle.fp_simp.specs.declared.simped.Simped.{Simped}
use Rattle.fp_simp.specs.declared.running.Live.{Live}
use Rattle.fp_simp.specs.declared.frame.Mode.TheVariants.{Enter, Return}
use Rattle.fp_simp.specs.Known.{known}
use Rattle.fp_rewriting.specs.Facts.{names_of}
use Rattle.fp_rewriting.specs.Settling.{Question, IsSimplified}
use Rattle.fp_simp.specs.Remaining.{Ends, is_step}
use Rattle.fp_simp.specs.Tasks.{Follows, IsResult, IsAnswer, IsAnswerAfter, HasMore}
use Rattle.fp_simp.proofs.Settled.{unfinished, finished, begins_with_guard, begins_with_goal}

pub follows_on : (q : Question) (steps : ℕ) (old new : Live) →
    ((u : Tm) (m : Left) → Ends (known new.running.context) new.running.guards new.running.goal new.running.in_goal new.running.walk.frames new.mode new.running.walk.left u m →
    Ends (known old.running.context) old.running.guards old.running.goal old.running.in_goal old.running.walk.frames old.mode old.running.walk.left u m) →
    Follows q steps old → Follows q new.running.walk.left.steps new
follows_on q steps old new f a = record { counted = refl; same = λ u m b. a.same u m (f u m b) }

pub has_more : (q : Question) (steps : ℕ) (live : Live) → is_step live.mode ≡ true → Follows q steps live → HasMore q steps
has_more q steps live e a u m b =
    rw (← a.counted) (unfinished q (known live.running.context) live.running.guards live.running.goal live.running.in_goal live.running.walk.frames live.mode live.running.walk.left e a.same u m b)

answer_at : (q : Question) (live : Live) (in_goal : Bool) (s : Simped) (l : Left) → in_goal ≡ true → s.fuel ≡ l.fuel → s.room ≡ l.room →
    ((u : Tm) (m : Left) → Ends (known live.running.context) live.running.guards live.running.goal in_goal [] (Return s.term) l u m → IsSimplified q u m) → IsAnswerAfter q l.steps s
answer_at q live in_goal s l e f g h =
    rw (f, g) (finished q (known live.running.context) live.running.guards live.running.goal s.term l (rw e at h))

pub is_answer : (q : Question) (steps : ℕ) (live : Live) (s : Simped) → IsResult live s → Follows q steps live → IsAnswerAfter q steps s
is_answer q steps live s r a =
    rw (← a.counted) (answer_at q live live.running.in_goal s live.running.walk.left r.goal r.fuel r.room (rw (r.bottom, r.returns) at a.same))

pub more_or_not : (q : Question) (live : Live) (n : ℕ) (o : Option Simped) → Follows q live.running.walk.left.steps live →
    IfNone o ((live.running.walk.left.steps ≡ n) × (is_step live.mode ≡ true)) → IfNone o (HasMore q live.running.walk.left.steps)
more_or_not q live n None a h = has_more q live.running.walk.left.steps live h.1 a
more_or_not q live n (Some s) a h = tt

pub answer_or_not : (q : Question) (live : Live) (o : Option Simped) → Follows q live.running.walk.left.steps live →
    IfSome o (IsResult live) → IfSome o (IsAnswerAfter q live.running.walk.left.steps)
answer_or_not q live None a h = tt
answer_or_not q live (Some s) a h = is_answer q live.running.walk.left.steps live s h a

pub begins_guard : (q : Question) (live : Live) (g : Tm) → q.guards ≡ g ∷ live.running.guards →
    known live.running.context ≡ record { rules = q.rules; names = names_of [] q.guards; facts = [] } → live.running.goal ≡ q.goal → live.running.in_goal ≡ false →
    live.running.walk.frames ≡ [] → live.mode ≡ Enter g → live.running.walk.left ≡ record { fuel = q.fuel; room = q.room; steps = 0 } → Follows q 0 live
begins_guard q live g e k goal in_goal bottom mode left =
    record { counted = ap (λ l. l.steps) left; same = λ u m b. begins_with_guard q g live.running.guards u m e (rw (k, goal, in_goal, bottom, mode, left) at b) }

pub begins_goal : (q : Question) (live : Live) → q.guards ≡ [] → live.running.guards ≡ [] →
    known live.running.context ≡ record { rules = q.rules; names = names_of [] q.guards; facts = [] } → live.running.goal ≡ q.goal → live.running.in_goal ≡ true →
    live.running.walk.frames ≡ [] → live.mode ≡ Enter q.goal → live.running.walk.left ≡ record { fuel = q.fuel; room = q.room; steps = 0 } → Follows q 0 live
begins_goal q live e none k goal in_goal bottom mode left =
    record { counted = ap (λ l. l.steps) left; same = λ u m b. begins_with_goal q u m e (rw (k, none, goal, in_goal, bottom, mode, left) at b) }

pub answer_of : (q : Question) (steps : ℕ) (s : Simped) → IsAnswerAfter q steps s → IsAnswer q s
answer_of q steps s a = record { steps = steps; is = a }
