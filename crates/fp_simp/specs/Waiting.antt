-- What comes of the part that is simplified now and of what waits for it.
use Rattle.std.specs.Borrow.{Bor}
use Rattle.std.specs.Prelude.{◌≡◌, ℕ, ◌+◌, true, false, List, [], ◌∷◌, map, Option, Some}
use Rattle.fp_term.specs.Types.{Typ}
use Rattle.fp_term.specs.Terms.{Tm, app, abs, term_eq, closed}
use Rattle.fp_match.specs.declared.inst.Inst.{Inst}
use Rattle.fp_conclude.specs.Logic.{true_constant}
use Rattle.fp_rewriting.specs.declared.rule.Rule.{Rule}
use Rattle.fp_rewriting.specs.declared.left.Left.{Left}
use Rattle.fp_simp.specs.declared.frame.Frame.{Frame}
use Rattle.fp_simp.specs.declared.frame.Frame.TheVariants.{Body, Function, Argument, Condition}
use Rattle.fp_simp.specs.declared.frame.Mode.{Mode}
use Rattle.fp_simp.specs.declared.frame.Mode.TheVariants.{Enter, Rewrite, Return}
use Rattle.fp_simp.specs.Depth.{depth_of}
use Rattle.fp_rewriting.specs.Simplification.{Known, instance, Simplifies, Rewrites, Goes, FindsRule, Hold}

-- what is found for the term by a rule that fits it: its conditions that are left, what it makes, and the rules after it
pub data Counts (k : Known) : ℕ → Left → List Tm → Tm → List Rule → Tm → Option Tm → Left → Type 0 where
  counts : {d : ℕ} {l m : Left} (ps : List Tm) (made : Tm) (rs : List Rule) (t : Tm) →
      Hold k (d + 1) l ps true m → Counts k d l ps made rs t (Some made) m
  counts_not : {d : ℕ} {l m n : Left} (ps : List Tm) (made : Tm) (rs : List Rule) (t : Tm) (o : Option Tm) →
      Hold k (d + 1) l ps false m → FindsRule k d m rs t o n → Counts k d l ps made rs t o n

-- the same once the condition before those has become `q`
pub data Resumes (k : Known) : ℕ → Left → Tm → List Tm → Tm → List Rule → Tm → Option Tm → Left → Type 0 where
  holds_then : {d : ℕ} {l m : Left} (q : Tm) (ps : List Tm) (made : Tm) (rs : List Rule) (t : Tm) (o : Option Tm) → term_eq q true_constant ≡ true →
      Counts k d l ps made rs t o m → Resumes k d l q ps made rs t o m
  fails_then : {d : ℕ} {l n : Left} (q : Tm) (ps : List Tm) (made : Tm) (rs : List Rule) (t : Tm) (o : Option Tm) → term_eq q true_constant ≡ false →
      FindsRule k d l rs t o n → Resumes k d l q ps made rs t o n

-- `Returns k fs t l u m`: with `l` left, the term is handed to the frames, and in the end there is `u`, with `m` left
pub data Returns (k : Known) : List Frame → Tm → Left → Tm → Left → Type 0 where
  at_bottom : (t : Tm) (l : Left) → Returns k [] t l t l
  to_body : {fs : List Frame} {t u : Tm} {l m : Left} (name : List ℕ) (ty : Typ) →
      Returns k fs (abs ty (closed 0 name ty t)) l u m → Returns k (Body name ty ∷ fs) t l u m
  to_function : {fs : List Frame} {t y v u : Tm} {l m n o : Left} (x : Tm) →
      Simplifies k (depth_of fs) l x y n → Rewrites k (depth_of fs) n (app t y) v o → Returns k fs v o u m → Returns k (Function x ∷ fs) t l u m
  to_argument : {fs : List Frame} {t v u : Tm} {l m n : Left} (f : Tm) →
      Rewrites k (depth_of fs) l (app f t) v n → Returns k fs v n u m → Returns k (Argument f ∷ fs) t l u m
  to_condition : {fs : List Frame} {q v u : Tm} {l m n p : Left} (t : Tm) (i : Inst) (r : Bor Rule) (ps : Bor (List Tm)) (rs : Bor (List Rule)) (o : Option Tm) →
      Resumes k (depth_of fs) l q (map (instance i) ps.now) (instance i r.now.rhs) rs.now t o n → Goes k (depth_of fs) n t o v p → Returns k fs v p u m →
      Returns k (Condition t i r ps rs ∷ fs) q l u m

-- `Finishes k fs mode l u m`: with `l` left, what is done next and then the frames come to `u`, with `m` left
pub data Finishes (k : Known) : List Frame → Mode → Left → Tm → Left → Type 0 where
  entered : {fs : List Frame} {t v u : Tm} {l n m : Left} → Simplifies k (depth_of fs) l t v n → Returns k fs v n u m → Finishes k fs (Enter t) l u m
  rewritten : {fs : List Frame} {t v u : Tm} {l n m : Left} → Rewrites k (depth_of fs) l t v n → Returns k fs v n u m → Finishes k fs (Rewrite t) l u m
  returned : {fs : List Frame} {t u : Tm} {l m : Left} → Returns k fs t l u m → Finishes k fs (Return t) l u m

-- `Proceeds k fs t o l u m`: `o` was found for the term, for which the frames wait
pub data Proceeds (k : Known) : List Frame → Tm → Option Tm → Left → Tm → Left → Type 0 where
  proceeded : {fs : List Frame} {t v u : Tm} {o : Option Tm} {l n m : Left} → Goes k (depth_of fs) l t o v n → Returns k fs v n u m → Proceeds k fs t o l u m

-- `Tries k fs t rs l u m`: the rules are left to be tried on the term, for which the frames wait
pub data Tries (k : Known) : List Frame → Tm → List Rule → Left → Tm → Left → Type 0 where
  tried : {fs : List Frame} {t u : Tm} {rs : List Rule} {o : Option Tm} {l n m : Left} → FindsRule k (depth_of fs) l rs t o n → Proceeds k fs t o n u m → Tries k fs t rs l u m

-- `Asks k fs t ps made rs l u m`: a rule fits the term, for which the frames wait
pub data Asks (k : Known) : List Frame → Tm → List Tm → Tm → List Rule → Left → Tm → Left → Type 0 where
  asked : {fs : List Frame} {t made u : Tm} {ps : List Tm} {rs : List Rule} {o : Option Tm} {l n m : Left} →
      Counts k (depth_of fs) l ps made rs t o n → Proceeds k fs t o n u m → Asks k fs t ps made rs l u m
