-- What a term simplifies to.
use Rattle.std.specs.Prelude.{◌≡◌, ℕ, ◌+◌, Bool, true, false, ◌&&◌, nat_le, if◌then◌else◌, List, [], ◌∷◌, map, Option, Some, None}
use Rattle.fp_term.specs.Types.{Typ}
use Rattle.fp_term.specs.Terms.{Tm, free, app, abs, term_eq, opened, closed, replaced, retyped_term}
use Rattle.fp_match.specs.Instances.{IsInstanceBy, IsTermInstance, AreOwn}
use Rattle.fp_match.specs.declared.inst.Inst.{Inst}
use Rattle.fp_conclude.specs.Logic.{true_constant}
use Rattle.fp_conclude.specs.Parts.{redex}
use Rattle.fp_rewriting.specs.declared.rule.Rule.{Rule}
use Rattle.fp_rewriting.specs.declared.left.Left.{Left}
use Rattle.fp_rewriting.specs.Spending.{stepped, affords, paid, emptied}
use Rattle.fp_rewriting.specs.Fresh.{fresh_name}

-- what stays the same while a term is simplified: the declared rules in order, the names of the guards' variables, and the
-- rules of the guards, each a term and what it becomes
pub record Known : Type 0 where
  pub rules : List Rule
  pub names : List (List ℕ)
  pub facts : List (Tm × Tm)

-- what the first rule of a guard for the term makes of it
abbrev pub fact_for : List (Tm × Tm) → Tm → Option Tm
fact_for [] t = None
fact_for (fact ∷ rest) t = if term_eq fact.0 t then Some fact.1 else fact_for rest t

abbrev pub contracted : Option (Tm × Tm) → Option Tm
contracted None = None
contracted (Some p) = Some (opened 0 p.1 p.0)

abbrev pub first_made : Option Tm → Option Tm → Option Tm
first_made None later = later
first_made (Some u) later = Some u

-- what a contraction, or else a rule of a guard, makes of the term
abbrev pub made_at_once : List (Tm × Tm) → Tm → Option Tm
made_at_once facts t = first_made (contracted (redex t)) (fact_for facts t)

abbrev pub instance : Inst → Tm → Tm
instance i t = replaced i.terms (retyped_term i.types t)

-- the term is that instance of the pattern, by pairs of what the pattern has
pub record Matches (i : Inst) (pattern t : Tm) : Type 0 where
  pub by : IsInstanceBy i.types i.terms pattern t
  pub own : AreOwn i.types i.terms pattern

abbrev pub has_any : {A : Type 0} → List A → Bool
has_any [] = false
has_any (x ∷ xs) = true

-- are conditions nested too deep for this rule?
abbrev pub is_too_deep : ℕ → Rule → Bool
is_too_deep d r = nat_le 3 d && has_any r.conds

abbrev pub is_compound : Tm → Bool
is_compound (app f x) = true
is_compound (abs s x) = true
is_compound _ = false

mutual
  -- `Simplifies k d l t u m`: in conditions of depth `d`, with `l` left, the term simplifies to `u`, and `m` is left then
  pub data Simplifies (k : Known) : ℕ → Left → Tm → Tm → Left → Type 0 where
    abstraction : {d : ℕ} {l m : Left} (s : Typ) (x y : Tm) →
        Simplifies k d (stepped l) (opened 0 (free (fresh_name k.names (abs s x)) s) x) y m →
        Simplifies k d l (abs s x) (abs s (closed 0 (fresh_name k.names (abs s x)) s y)) m
    application : {d : ℕ} {l m n o : Left} (f x g y u : Tm) →
        Simplifies k d (stepped l) f g m → Simplifies k d m x y n → Rewrites k d n (app g y) u o →
        Simplifies k d l (app f x) u o
    other : {d : ℕ} {l m : Left} (t u : Tm) → is_compound t ≡ false →
        Rewrites k d (stepped l) t u m → Simplifies k d l t u m

  -- a term whose parts are simplified is rewritten
  pub data Rewrites (k : Known) : ℕ → Left → Tm → Tm → Left → Type 0 where
    rewriting : {d : ℕ} {l m n : Left} (t u : Tm) (o : Option Tm) →
        Finds k d (stepped l) t o m → Goes k d m t o u n → Rewrites k d l t u n

  -- `Goes k d l t o u m`: where `o` was found for the term, this is what becomes of it
  pub data Goes (k : Known) : ℕ → Left → Tm → Option Tm → Tm → Left → Type 0 where
    stays : {d : ℕ} {l : Left} (t : Tm) → Goes k d l t None t l
    ends : {d : ℕ} {l : Left} (t v : Tm) → affords l v ≡ false → Goes k d l t (Some v) t (emptied l)
    continues : {d : ℕ} {l m : Left} (t v u : Tm) → affords l v ≡ true →
        Simplifies k d (paid l v) v u m → Goes k d l t (Some v) u m

  -- `Finds k d l t o m`: what a contraction or the first rule that counts makes of the term
  pub data Finds (k : Known) : ℕ → Left → Tm → Option Tm → Left → Type 0 where
    no_fuel : {d : ℕ} {l : Left} (t : Tm) → l.fuel ≡ 0 → Finds k d l t None l
    at_once : {d : ℕ} {l : Left} (t u : Tm) → (l.fuel ≡ 0 → ⊥) → made_at_once k.facts t ≡ Some u → Finds k d l t (Some u) l
    by_rules : {d : ℕ} {l m : Left} (t : Tm) (o : Option Tm) → (l.fuel ≡ 0 → ⊥) → made_at_once k.facts t ≡ None →
        FindsRule k d l k.rules t o m → Finds k d l t o m

  -- what the first of the rules that counts makes of the term
  pub data FindsRule (k : Known) : ℕ → Left → List Rule → Tm → Option Tm → Left → Type 0 where
    no_rule : {d : ℕ} {l : Left} (t : Tm) → FindsRule k d l [] t None l
    too_deep : {d : ℕ} {l m : Left} (r : Rule) (rs : List Rule) (t : Tm) (o : Option Tm) → is_too_deep d r ≡ true →
        FindsRule k d l rs t o m → FindsRule k d l (r ∷ rs) t o m
    no_instance : {d : ℕ} {l m : Left} (r : Rule) (rs : List Rule) (t : Tm) (o : Option Tm) → (IsTermInstance r.lhs t → ⊥) →
        FindsRule k d l rs t o m → FindsRule k d l (r ∷ rs) t o m
    used : {d : ℕ} {l m : Left} (r : Rule) (rs : List Rule) (t : Tm) (i : Inst) → is_too_deep d r ≡ false → Matches i r.lhs t →
        Hold k (d + 1) l (map (instance i) r.conds) true m → FindsRule k d l (r ∷ rs) t (Some (instance i r.rhs)) m
    unused : {d : ℕ} {l m n : Left} (r : Rule) (rs : List Rule) (t : Tm) (o : Option Tm) (i : Inst) → is_too_deep d r ≡ false → Matches i r.lhs t →
        Hold k (d + 1) l (map (instance i) r.conds) false m → FindsRule k d m rs t o n → FindsRule k d l (r ∷ rs) t o n

  -- do the conditions simplify to truth, in order? The first that does not ends this
  pub data Hold (k : Known) : ℕ → Left → List Tm → Bool → Left → Type 0 where
    all_hold : {d : ℕ} {l : Left} → Hold k d l [] true l
    fails : {d : ℕ} {l m : Left} (p q : Tm) (ps : List Tm) → Simplifies k d l p q m → term_eq q true_constant ≡ false → Hold k d l (p ∷ ps) false m
    holds : {d : ℕ} {l m n : Left} (p q : Tm) (ps : List Tm) (b : Bool) → Simplifies k d l p q m → term_eq q true_constant ≡ true →
        Hold k d m ps b n → Hold k d l (p ∷ ps) b n
