-- Each step of the task keeps what it comes to.
use Rattle.std.proofs.Common.{◌≡◌, ℕ, true, false, List, [], ◌∷◌, map, length, arith, refl}
use Rattle.std.specs.Borrow.{Bor}
use Rattle.std.specs.Prelude.{Option, Some, None}
use Rattle.fp_term.specs.Types.{Typ}
use Rattle.fp_term.specs.Terms.{Tm, free, app, abs, opened, closed, term_eq}
use Rattle.fp_match.specs.declared.inst.Inst.{Inst}
use Rattle.fp_match.specs.Instances.{IsTermInstance}
use Rattle.fp_conclude.specs.Logic.{true_constant}
use Rattle.fp_rewriting.specs.declared.left.Left.{Left}
use Rattle.fp_rewriting.specs.declared.rule.Rule.{Rule}
use Rattle.fp_simp.specs.declared.frame.Frame.{Frame}
use Rattle.fp_simp.specs.declared.frame.Frame.TheVariants.{Body, Function, Argument, Condition}
use Rattle.fp_simp.specs.declared.frame.Mode.TheVariants.{Enter, Rewrite, Return}
use Rattle.fp_rewriting.specs.Fresh.{fresh_name}
use Rattle.fp_simp.specs.Depth.{depth_of}
use Rattle.fp_rewriting.specs.Candidates.{AreHeaded, candidates, head_constant}
use Rattle.fp_rewriting.proofs.Candidates.{candidates_find}
use Rattle.fp_rewriting.specs.Spending.{stepped, paid, emptied, affords}
use Rattle.fp_rewriting.specs.Simplification.{Known, instance, is_too_deep, is_compound, made_at_once, Finds, abstraction, application, other, rewriting, stays, ends, continues, no_fuel, at_once, by_rules, no_rule, too_deep, no_instance, used, unused, all_hold, fails, holds}
use Rattle.fp_rewriting.specs.Fitting.{Passes, Fits, deep, foreign, here, over}
use Rattle.fp_simp.specs.Waiting.{Finishes, Proceeds, Tries, Asks, counts, counts_not, holds_then, fails_then, asked, to_body, to_function, to_argument, to_condition, entered, rewritten, returned, proceeded, tried}

pub enter_application : {k : Known} {fs : List Frame} (f x : Tm) (l : Left) (u : Tm) (m : Left) →
    Finishes k (Function x ∷ fs) (Enter f) (stepped l) u m → Finishes k fs (Enter (app f x)) l u m
enter_application f x l u m (entered {v = g} a (to_function {y = y} {v = v} _ b c d)) = entered (application f x g y v a b c) d

pub enter_abstraction : {k : Known} {fs : List Frame} (s : Typ) (x : Tm) (l : Left) (u : Tm) (m : Left) →
    Finishes k (Body (fresh_name k.names (abs s x)) s ∷ fs) (Enter (opened 0 (free (fresh_name k.names (abs s x)) s) x)) (stepped l) u m → Finishes k fs (Enter (abs s x)) l u m
enter_abstraction s x l u m (entered {v = y} a (to_body name ty b)) = entered (abstraction s x y a) b

pub enter_other : {k : Known} {fs : List Frame} (t : Tm) (l : Left) (u : Tm) (m : Left) → is_compound t ≡ false →
    Finishes k fs (Rewrite t) (stepped l) u m → Finishes k fs (Enter t) l u m
enter_other t l u m e (rewritten {v = v} a b) = entered (other t v e a) b

pub go_stays : {k : Known} {fs : List Frame} (t : Tm) (l : Left) (u : Tm) (m : Left) → Finishes k fs (Return t) l u m → Proceeds k fs t None l u m
go_stays t l u m (returned a) = proceeded (stays t) a

pub go_ends : {k : Known} {fs : List Frame} (t v : Tm) (l : Left) (u : Tm) (m : Left) → affords l v ≡ false →
    Finishes k fs (Return t) (emptied l) u m → Proceeds k fs t (Some v) l u m
go_ends t v l u m e (returned a) = proceeded (ends t v e) a

pub go_on : {k : Known} {fs : List Frame} (t v : Tm) (l : Left) (u : Tm) (m : Left) → affords l v ≡ true →
    Finishes k fs (Enter v) (paid l v) u m → Proceeds k fs t (Some v) l u m
go_on t v l u m e (entered {v = w} a b) = proceeded (continues t v w e a) b

found_goes : {k : Known} {fs : List Frame} {t : Tm} {o : Option Tm} {l n : Left} {u : Tm} {m : Left} → Finds k (depth_of fs) (stepped l) t o n → Proceeds k fs t o n u m → Finishes k fs (Rewrite t) l u m
found_goes {k} {fs} {t} {o} a (proceeded {v = v} b c) = rewritten (rewriting t v o a b) c

pub rewrite_without_fuel : {k : Known} {fs : List Frame} (t : Tm) (l : Left) (u : Tm) (m : Left) → l.fuel ≡ 0 →
    Finishes k fs (Return t) (stepped l) u m → Finishes k fs (Rewrite t) l u m
rewrite_without_fuel t l u m e a = found_goes (no_fuel t e) (go_stays t (stepped l) u m a)

pub rewrite_at_once : {k : Known} {fs : List Frame} (t v : Tm) (l : Left) (u : Tm) (m : Left) → (l.fuel ≡ 0 → ⊥) → made_at_once k.facts t ≡ Some v →
    Proceeds k fs t (Some v) (stepped l) u m → Finishes k fs (Rewrite t) l u m
rewrite_at_once t v l u m e f a = found_goes (at_once t v e f) a

pub rewrite_by_rules : {k : Known} {fs : List Frame} (t : Tm) (l : Left) (u : Tm) (m : Left) → (l.fuel ≡ 0 → ⊥) → made_at_once k.facts t ≡ None →
    Tries k fs t k.rules (stepped l) u m → Finishes k fs (Rewrite t) l u m
rewrite_by_rules t l u m e f (tried {o = o} a b) = found_goes (by_rules t o e f a) b

pub tries_nothing : {k : Known} {fs : List Frame} (t : Tm) (l : Left) (u : Tm) (m : Left) → Finishes k fs (Return t) l u m → Tries k fs t [] l u m
tries_nothing t l u m a = tried (no_rule t) (go_stays t l u m a)

pub tries_deep : {k : Known} {fs : List Frame} (t : Tm) (r : Rule) (rs : List Rule) (l : Left) (u : Tm) (m : Left) → is_too_deep (depth_of fs) r ≡ true →
    Tries k fs t rs l u m → Tries k fs t (r ∷ rs) l u m
tries_deep t r rs l u m e (tried {o = o} a b) = tried (too_deep r rs t o e a) b

pub tries_no_instance : {k : Known} {fs : List Frame} (t : Tm) (r : Rule) (rs : List Rule) (l : Left) (u : Tm) (m : Left) → (IsTermInstance r.lhs t → ⊥) →
    Tries k fs t rs l u m → Tries k fs t (r ∷ rs) l u m
tries_no_instance t r rs l u m e (tried {o = o} a b) = tried (no_instance r rs t o e a) b

pub tries_fitting : {k : Known} {fs : List Frame} (t : Tm) (r : Rule) (rs : List Rule) (i : Inst) (l : Left) (u : Tm) (m : Left) → Fits (depth_of fs) i r t →
    Asks k fs t (map (instance i) r.conds) (instance i r.rhs) rs l u m → Tries k fs t (r ∷ rs) l u m
tries_fitting t r rs i l u m f (asked {o = o} (counts ps made rs' t' h) b) = tried (used r rs t i f.shallow f.matches h) b
tries_fitting t r rs i l u m f (asked {o = o} (counts_not ps made rs' t' o' h g) b) = tried (unused r rs t o i f.shallow f.matches h g) b

pub tries_passed : {k : Known} {fs : List Frame} (t : Tm) (all rest : List Rule) (l : Left) (u : Tm) (m : Left) → Passes (depth_of fs) t all rest →
    Tries k fs t rest l u m → Tries k fs t all l u m
tries_passed t all rest l u m (here rs) a = a
tries_passed t all rest l u m (over r rs rest' (deep e) p) a = tries_deep t r rs l u m e (tries_passed t rs rest' l u m p a)
tries_passed t all rest l u m (over r rs rest' (foreign e) p) a = tries_no_instance t r rs l u m e (tries_passed t rs rest' l u m p a)

pub asks_nothing : {k : Known} {fs : List Frame} (t made : Tm) (rs : List Rule) (i : Inst) (ps : List Tm) (l : Left) (u : Tm) (m : Left) → length ps ≡ 0 →
    Proceeds k fs t (Some made) l u m → Asks k fs t (map (instance i) ps) made rs l u m
asks_nothing t made rs i [] l u m e a = asked (counts [] made rs t all_hold) a
asks_nothing t made rs i (p ∷ ps) l u m e a = absurd (omega arith)

pub asks_next : {k : Known} {fs : List Frame} (t : Tm) (i : Inst) (r : Bor Rule) (p : Tm) (ps : Bor (List Tm)) (rs : Bor (List Rule)) (l : Left) (u : Tm) (m : Left) →
    Finishes k (Condition t i r ps rs ∷ fs) (Enter (instance i p)) l u m → Asks k fs t (instance i p ∷ map (instance i) ps.now) (instance i r.now.rhs) rs.now l u m
asks_next t i r p ps rs l u m (entered {v = q} a (to_condition _ _ _ _ _ o (holds_then _ _ _ _ _ _ e (counts _ made _ _ h)) c d)) =
    asked (counts _ made rs.now t (holds (instance i p) q _ true a e h)) (proceeded c d)
asks_next t i r p ps rs l u m (entered {v = q} a (to_condition _ _ _ _ _ o (holds_then _ _ _ _ _ _ e (counts_not _ made _ _ _ h g)) c d)) =
    asked (counts_not _ made rs.now t o (holds (instance i p) q _ false a e h) g) (proceeded c d)
asks_next t i r p ps rs l u m (entered {v = q} a (to_condition _ _ _ _ _ o (fails_then _ _ made _ _ _ e g) c d)) =
    asked (counts_not _ made rs.now t o (fails (instance i p) q _ a e) g) (proceeded c d)

pub return_to_body : {k : Known} {fs : List Frame} (name : List ℕ) (ty : Typ) (t : Tm) (l : Left) (u : Tm) (m : Left) → Finishes k fs (Return (abs ty (closed 0 name ty t))) l u m → Finishes k (Body name ty ∷ fs) (Return t) l u m
return_to_body name ty t l u m (returned a) = returned (to_body name ty a)

pub return_to_function : {k : Known} {fs : List Frame} (x t : Tm) (l : Left) (u : Tm) (m : Left) → Finishes k (Argument t ∷ fs) (Enter x) l u m → Finishes k (Function x ∷ fs) (Return t) l u m
return_to_function x t l u m (entered a (to_argument f b c)) = returned (to_function x a b c)

pub return_to_argument : {k : Known} {fs : List Frame} (f t : Tm) (l : Left) (u : Tm) (m : Left) → Finishes k fs (Rewrite (app f t)) l u m → Finishes k (Argument f ∷ fs) (Return t) l u m
return_to_argument f t l u m (rewritten a b) = returned (to_argument f a b)

pub return_holds : {k : Known} {fs : List Frame} (t : Tm) (i : Inst) (r : Bor Rule) (ps : Bor (List Tm)) (rs : Bor (List Rule)) (q : Tm) (l : Left) (u : Tm) (m : Left) → term_eq q true_constant ≡ true →
    Asks k fs t (map (instance i) ps.now) (instance i r.now.rhs) rs.now l u m → Finishes k (Condition t i r ps rs ∷ fs) (Return q) l u m
return_holds t i r ps rs q l u m e (asked {o = o} a (proceeded b c)) = returned (to_condition t i r ps rs o (holds_then q _ _ rs.now t o e a) b c)

pub return_fails : {k : Known} {fs : List Frame} (t : Tm) (i : Inst) (r : Bor Rule) (ps : Bor (List Tm)) (rs : Bor (List Rule)) (q : Tm) (l : Left) (u : Tm) (m : Left) → term_eq q true_constant ≡ false →
    Tries k fs t rs.now l u m → Finishes k (Condition t i r ps rs ∷ fs) (Return q) l u m
return_fails t i r ps rs q l u m e (tried {o = o} a (proceeded b c)) = returned (to_condition t i r ps rs o (fails_then q _ _ rs.now t o e a) b c)

pub tries_all : {k : Known} {fs : List Frame} (rs : List Rule) (t : Tm) (l : Left) (u : Tm) (m : Left) → AreHeaded rs → Tries k fs t (candidates rs t) l u m → Tries k fs t rs l u m
tries_all rs t l u m h (tried {o = o} {n = n} a b) = tried (candidates_find rs t o l n h (head_constant t) refl a) b

pub rewrite_by_candidates : {k : Known} {fs : List Frame} (t : Tm) (rs : List Rule) (l : Left) (u : Tm) (m : Left) → (l.fuel ≡ 0 → ⊥) → made_at_once k.facts t ≡ None → rs ≡ candidates k.rules t → AreHeaded k.rules →
    Tries k fs t rs (stepped l) u m → Finishes k fs (Rewrite t) l u m
rewrite_by_candidates {k} t rs l u m e f g h a = rewrite_by_rules t l u m e f (tries_all k.rules t (stepped l) u m h (rw g at a))
