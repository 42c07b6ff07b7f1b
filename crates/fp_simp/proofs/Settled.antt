-- Each question has one answer, and a task that isn't over has more steps to do.
use Rattle.std.proofs.Common.{◌≡◌, ◌<◌, ◌+◌, ℕ, Bool, true, false, List, [], ◌∷◌, map, refl, sym, subst, arith}
use Rattle.std.specs.Prelude.{Option, Some}
use Rattle.fp_term.specs.Terms.{Tm, app, abs, closed}
use Rattle.fp_rewriting.specs.declared.left.Left.{Left}
use Rattle.fp_rewriting.specs.declared.rule.Rule.{Rule}
use Rattle.fp_simp.specs.declared.frame.Frame.{Frame}
use Rattle.fp_simp.specs.declared.frame.Frame.TheVariants.{Body, Function, Argument, Condition}
use Rattle.fp_simp.specs.declared.frame.Mode.{Mode}
use Rattle.fp_simp.specs.declared.frame.Mode.TheVariants.{Enter, Rewrite, Return}
use Rattle.fp_simp.specs.Depth.{depth_of}
use Rattle.fp_rewriting.specs.Spending.{stepped}
use Rattle.fp_conclude.specs.Logic.{true_constant}
use Rattle.fp_term.specs.Terms.{term_eq}
use Rattle.fp_rewriting.specs.Simplification.{Known, instance}
use Rattle.fp_simp.specs.Waiting.{Counts, Resumes, Returns, Finishes, counts, counts_not, holds_then, fails_then, at_bottom, to_body, to_function, to_argument, to_condition, entered, rewritten, returned}
use Rattle.fp_rewriting.specs.Facts.{names_of}
use Rattle.fp_rewriting.specs.Settling.{Question, IsSimplified, Settles, of_goal, of_guard, with_facts}
use Rattle.fp_simp.specs.Remaining.{Ends, ends_goal, ends_guard, is_step}
use Rattle.fp_rewriting.proofs.Settles.{Come, settles, settles_falls, one_settled}
use Rattle.fp_rewriting.proofs.Falls.{Falls, falls_same, falls_on, later, simplifies_falls, rewrites_falls, goes_falls, rule_falls, hold_falls}
use Rattle.fp_rewriting.proofs.Total.{Simplified, Rewritten, Gone, FoundRule, Held}
use Rattle.fp_rewriting.proofs.Total as total

record Counted (k : Known) (d : ℕ) (l : Left) (ps : List Tm) (made : Tm) (rs : List Rule) (t : Tm) : Type 0 where
  found : Option Tm
  left : Left
  by : Counts k d l ps made rs t found left

by_test : (b : Bool) (P : Type 0) → (b ≡ true → P) → (b ≡ false → P) → P
by_test true P f g = f refl
by_test false P f g = g refl

counted : (k : Known) (d : ℕ) (l : Left) (ps : List Tm) (made : Tm) (rs : List Rule) (t : Tm) → Counted k d l ps made rs t
counted k d l ps made rs t =
    let a : Held k (d + 1) l ps = total.held k (d + 1) l ps in
    by_test a.all _ (λ e. record { found = Some made; left = a.left; by = counts ps made rs t (rw e at a.by) })
    (λ e. let b : FoundRule k d a.left rs t = total.found_rule k d a.left rs t in
    record { found = b.made; left = b.left; by = counts_not ps made rs t b.made (rw e at a.by) b.by })

record Resumed (k : Known) (d : ℕ) (l : Left) (q : Tm) (ps : List Tm) (made : Tm) (rs : List Rule) (t : Tm) : Type 0 where
  found : Option Tm
  left : Left
  by : Resumes k d l q ps made rs t found left

resumed : (k : Known) (d : ℕ) (l : Left) (q : Tm) (ps : List Tm) (made : Tm) (rs : List Rule) (t : Tm) → Resumed k d l q ps made rs t
resumed k d l q ps made rs t =
    by_test (term_eq q true_constant) _
    (λ e. let a : Counted k d l ps made rs t = counted k d l ps made rs t in record { found = a.found; left = a.left; by = holds_then q ps made rs t a.found e a.by })
    (λ e. let b : FoundRule k d l rs t = total.found_rule k d l rs t in record { found = b.made; left = b.left; by = fails_then q ps made rs t b.made e b.by })

pub returns : (k : Known) (fs : List Frame) (t : Tm) (l : Left) → Come (Returns k fs t l)
returns k [] t l = record { term = t; left = l; by = at_bottom t l }
returns k (Body name ty ∷ fs) t l = let a : Come (Returns k fs (abs ty (closed 0 name ty t)) l) = returns k fs (abs ty (closed 0 name ty t)) l in record { term = a.term; left = a.left; by = to_body name ty a.by }
returns k (Function x ∷ fs) t l =
    let a : Simplified k (depth_of fs) l x = total.simplified k (depth_of fs) l x in
    let b : Rewritten k (depth_of fs) a.left (app t a.term) = total.rewritten k (depth_of fs) a.left (app t a.term) in
    let c : Come (Returns k fs b.term b.left) = returns k fs b.term b.left in
    record { term = c.term; left = c.left; by = to_function x a.by b.by c.by }
returns k (Argument f ∷ fs) t l =
    let b : Rewritten k (depth_of fs) l (app f t) = total.rewritten k (depth_of fs) l (app f t) in
    let c : Come (Returns k fs b.term b.left) = returns k fs b.term b.left in
    record { term = c.term; left = c.left; by = to_argument f b.by c.by }
returns k (Condition t i r ps rs ∷ fs) q l =
    let a : Resumed k (depth_of fs) l q (map (instance i) ps.now) (instance i r.now.rhs) rs.now t = resumed k (depth_of fs) l q (map (instance i) ps.now) (instance i r.now.rhs) rs.now t in
    let b : Gone k (depth_of fs) a.left t a.found = total.gone k (depth_of fs) a.left t a.found in
    let c : Come (Returns k fs b.term b.left) = returns k fs b.term b.left in
    record { term = c.term; left = c.left; by = to_condition t i r ps rs a.found a.by b.by c.by }

pub finishes : (k : Known) (fs : List Frame) (mode : Mode) (l : Left) → Come (Finishes k fs mode l)
finishes k fs (Enter t) l =
    let a : Simplified k (depth_of fs) l t = total.simplified k (depth_of fs) l t in
    let c : Come (Returns k fs a.term a.left) = returns k fs a.term a.left in
    record { term = c.term; left = c.left; by = entered a.by c.by }
finishes k fs (Rewrite t) l =
    let a : Rewritten k (depth_of fs) l t = total.rewritten k (depth_of fs) l t in
    let c : Come (Returns k fs a.term a.left) = returns k fs a.term a.left in
    record { term = c.term; left = c.left; by = rewritten a.by c.by }
finishes k fs (Return t) l = let c : Come (Returns k fs t l) = returns k fs t l in record { term = c.term; left = c.left; by = returned c.by }

pub ends : (k : Known) (gs : List Tm) (goal : Tm) (in_goal : Bool) (fs : List Frame) (mode : Mode) (l : Left) → Come (Ends k gs goal in_goal fs mode l)
ends k gs goal true fs mode l = let a : Come (Finishes k fs mode l) = finishes k fs mode l in record { term = a.term; left = a.left; by = ends_goal k gs goal a.term a.by }
ends k gs goal false fs mode l =
    let a : Come (Finishes k fs mode l) = finishes k fs mode l in
    let b : Come (Settles (with_facts k a.term) gs goal a.left) = settles (with_facts k a.term) gs goal a.left in
    record { term = b.term; left = b.left; by = ends_guard k gs goal a.term b.term a.by b.by }

counts_falls : {k : Known} {d : ℕ} {l : Left} {ps : List Tm} {made : Tm} {rs : List Rule} {t : Tm} {o : Option Tm} {m : Left} → Counts k d l ps made rs t o m → Falls l m
counts_falls (counts ps made rs t a) = hold_falls a
counts_falls (counts_not ps made rs t o a b) = falls_on (hold_falls a) (rule_falls b)

resumes_falls : {k : Known} {d : ℕ} {l : Left} {q : Tm} {ps : List Tm} {made : Tm} {rs : List Rule} {t : Tm} {o : Option Tm} {m : Left} → Resumes k d l q ps made rs t o m → Falls l m
resumes_falls (holds_then q ps made rs t o e a) = counts_falls a
resumes_falls (fails_then q ps made rs t o e a) = rule_falls a

returns_falls : {k : Known} {fs : List Frame} {t : Tm} {l : Left} {u : Tm} {m : Left} → Returns k fs t l u m → Falls l m
returns_falls (at_bottom t l) = falls_same l
returns_falls (to_body name ty a) = returns_falls a
returns_falls (to_function x a b c) = falls_on (later (simplifies_falls a)) (falls_on (later (rewrites_falls b)) (returns_falls c))
returns_falls (to_argument f b c) = falls_on (later (rewrites_falls b)) (returns_falls c)
returns_falls (to_condition t i r ps rs o a b c) = falls_on (resumes_falls a) (falls_on (goes_falls b) (returns_falls c))

finishes_falls : {k : Known} {fs : List Frame} {mode : Mode} {l : Left} {u : Tm} {m : Left} → is_step mode ≡ true → Finishes k fs mode l u m → Falls (stepped l) m
finishes_falls e (entered a b) = falls_on (simplifies_falls a) (returns_falls b)
finishes_falls e (rewritten a b) = falls_on (rewrites_falls a) (returns_falls b)
finishes_falls e (returned a) = cc

ends_falls : {k : Known} {gs : List Tm} {goal : Tm} {in_goal : Bool} {fs : List Frame} {mode : Mode} {l : Left} {u : Tm} {m : Left} → is_step mode ≡ true → Ends k gs goal in_goal fs mode l u m → Falls (stepped l) m
ends_falls e (ends_goal k gs goal u a) = finishes_falls e a
ends_falls e (ends_guard k gs goal h u a b) = falls_on (finishes_falls e a) (later (settles_falls b))

-- what a task that has a step to do says of each answer
pub unfinished : (q : Question) (k : Known) (gs : List Tm) (goal : Tm) (in_goal : Bool) (fs : List Frame) (mode : Mode) (l : Left) → is_step mode ≡ true →
    ((u : Tm) (m : Left) → Ends k gs goal in_goal fs mode l u m → IsSimplified q u m) → (v : Tm) (n : Left) → IsSimplified q v n → l.steps < n.steps
unfinished q k gs goal in_goal fs mode l e f v n h =
    let a : Come (Ends k gs goal in_goal fs mode l) = ends k gs goal in_goal fs mode l in
    let p : Falls (stepped l) a.left = ends_falls e a.by in
    let s = one_settled (f a.term a.left a.by) v n h in
    let i : l.steps < a.left.steps = omega (arith, p.steps) in
    rw s.left at i

-- the answer of a task that is over
pub finished : (q : Question) (k : Known) (gs : List Tm) (goal : Tm) (t : Tm) (l : Left) →
    ((u : Tm) (m : Left) → Ends k gs goal true [] (Return t) l u m → IsSimplified q u m) → IsSimplified q t l
finished q k gs goal t l f = f t l (ends_goal k gs goal t (returned (at_bottom t l)))

-- what one transition keeps, all keeps
pub ends_along : {k : Known} {gs : List Tm} {goal : Tm} {in_goal : Bool} {fs fs' : List Frame} {mode mode' : Mode} {l l' : Left} →
    ((u : Tm) (m : Left) → Finishes k fs' mode' l' u m → Finishes k fs mode l u m) → (u : Tm) (m : Left) → Ends k gs goal in_goal fs' mode' l' u m → Ends k gs goal in_goal fs mode l u m
ends_along f u m (ends_goal k gs goal v a) = ends_goal k gs goal v (f v _ a)
ends_along f u m (ends_guard k gs goal h v a b) = ends_guard k gs goal h v (f h _ a) b

pub next_guard : (k : Known) (g : Tm) (gs : List Tm) (goal t : Tm) (l : Left) (u : Tm) (m : Left) →
    Ends (with_facts k t) gs goal false [] (Enter g) l u m → Ends k (g ∷ gs) goal false [] (Return t) l u m
next_guard k g gs goal t l u m (ends_guard _ _ _ h _ (entered a (at_bottom _ _)) b) =
    ends_guard k (g ∷ gs) goal t u (returned (at_bottom t l)) (of_guard (with_facts k t) g h gs goal u a b)

pub next_goal : (k : Known) (goal t : Tm) (l : Left) (u : Tm) (m : Left) →
    Ends (with_facts k t) [] goal true [] (Enter goal) l u m → Ends k [] goal false [] (Return t) l u m
next_goal k goal t l u m (ends_goal _ _ _ _ (entered a (at_bottom _ _))) =
    ends_guard k [] goal t u (returned (at_bottom t l)) (of_goal (with_facts k t) goal u a)

-- where a task begins
pub begins_with_guard : (q : Question) (g : Tm) (gs : List Tm) (u : Tm) (m : Left) → q.guards ≡ g ∷ gs →
    Ends (record { rules = q.rules; names = names_of [] q.guards; facts = [] }) gs q.goal false [] (Enter g) (record { fuel = q.fuel; room = q.room; steps = 0 }) u m → IsSimplified q u m
begins_with_guard q g gs u m e (ends_guard k _ _ h _ (entered a (at_bottom _ _)) b) =
    subst (λ (x : List Tm). Settles (record { rules = q.rules; names = names_of [] q.guards; facts = [] }) x q.goal (record { fuel = q.fuel; room = q.room; steps = 0 }) u m) (sym e) (of_guard _ g h gs q.goal u a b)

pub begins_with_goal : (q : Question) (u : Tm) (m : Left) → q.guards ≡ [] →
    Ends (record { rules = q.rules; names = names_of [] q.guards; facts = [] }) [] q.goal true [] (Enter q.goal) (record { fuel = q.fuel; room = q.room; steps = 0 }) u m → IsSimplified q u m
begins_with_goal q u m e (ends_goal k _ _ _ (entered a (at_bottom _ _))) =
    subst (λ (x : List Tm). Settles (record { rules = q.rules; names = names_of [] q.guards; facts = [] }) x q.goal (record { fuel = q.fuel; room = q.room; steps = 0 }) u m) (sym e) (of_goal _ q.goal u a)
