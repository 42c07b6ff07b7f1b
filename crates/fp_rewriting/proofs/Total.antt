-- Each term simplifies.
use Rattle.std.proofs.Common.{◌≡◌, ◌≤◌, ◌<◌, ◌+◌, ◌&&◌, ◌==◌, ℕ, zero, suc, Bool, true, false, cond, List, [], ◌∷◌, map, refl, arith}
use Rattle.std.specs.Prelude.{Option, Some, None, nat_le}
use Rattle.fp_term.specs.Types.{Typ}
use Rattle.fp_term.specs.Terms.{Tm, bound, free, constant, app, abs, size_of, opened, term_eq}
use Rattle.fp_match.specs.declared.inst.Inst.{Inst}
use Rattle.fp_match.specs.Walk.{matched_term}
use Rattle.fp_match.proofs.TermPairs.{nothing}
use Rattle.fp_match.proofs.Matching.{matched_instance, unmatched}
use Rattle.fp_match.proofs.Own.{matched_own}
use Rattle.fp_conclude.specs.Logic.{true_constant}
use Rattle.fp_rewriting.specs.declared.left.Left.{Left}
use Rattle.fp_rewriting.specs.declared.rule.Rule.{Rule}
use Rattle.fp_rewriting.specs.Fresh.{fresh_name}
use Rattle.fp_rewriting.specs.Spending.{stepped, paid, emptied, affords}
use Rattle.fp_rewriting.specs.Simplification.{Known, Matches, instance, is_too_deep, has_any, made_at_once, Simplifies, Rewrites, Goes, Finds, FindsRule, Hold, abstraction, application, other, rewriting, stays, ends, continues, no_fuel, at_once, by_rules, no_rule, too_deep, no_instance, used, unused, all_hold, fails, holds}
use Rattle.fp_rewriting.proofs.Falls.{simplifies_falls, finds_falls, hold_falls}

pub record Simplified (k : Known) (d : ℕ) (l : Left) (t : Tm) : Type 0 where
  pub term : Tm
  pub left : Left
  pub by : Simplifies k d l t term left

pub record Rewritten (k : Known) (d : ℕ) (l : Left) (t : Tm) : Type 0 where
  pub term : Tm
  pub left : Left
  pub by : Rewrites k d l t term left

pub record Gone (k : Known) (d : ℕ) (l : Left) (t : Tm) (o : Option Tm) : Type 0 where
  pub term : Tm
  pub left : Left
  pub by : Goes k d l t o term left

record Found (k : Known) (d : ℕ) (l : Left) (t : Tm) : Type 0 where
  made : Option Tm
  left : Left
  by : Finds k d l t made left

pub record FoundRule (k : Known) (d : ℕ) (l : Left) (rs : List Rule) (t : Tm) : Type 0 where
  pub made : Option Tm
  pub left : Left
  pub by : FindsRule k d l rs t made left

pub record Held (k : Known) (d : ℕ) (l : Left) (ps : List Tm) : Type 0 where
  pub all : Bool
  pub left : Left
  pub by : Hold k d l ps all left

by_test : (b : Bool) (P : Type 0) → (b ≡ true → P) → (b ≡ false → P) → P
by_test true P f g = f refl
by_test false P f g = g refl

by_option : {A : Type 0} (o : Option A) (P : Type 0) → (o ≡ None → P) → ((a : A) → o ≡ Some a → P) → P
by_option None P f g = f refl
by_option (Some a) P f g = g a refl

opened_size : (at : ℕ) (a : List ℕ) (s : Typ) (t : Tm) → size_of (opened at (free a s) t) ≡ size_of t
opened_size at a s (bound n) = elim (n == at) as (λ b. size_of (cond b (free a s) (bound n)) ≡ 1) [ true ↦ refl | false ↦ refl ]
opened_size at a s (free b u) = refl
opened_size at a s (constant b u) = refl
opened_size at a s (app f x) = let p = opened_size at a s f in let q = opened_size at a s x in cc
opened_size at a s (abs u x) = let p = opened_size (at + 1) a s x in cc

pos_size : (t : Tm) → 0 < size_of t
pos_size (bound n) = omega arith
pos_size (free b u) = omega arith
pos_size (constant b u) = omega arith
pos_size (app f x) = omega arith
pos_size (abs u x) = omega arith

is_zero : (n : ℕ) → (n == 0) ≡ true → n ≡ 0
is_zero zero e = refl
is_zero (suc n) e = grind arith

not_zero : (n : ℕ) → (n == 0) ≡ false → n ≡ 0 → ⊥
not_zero zero e = cc
not_zero (suc n) e = λ f. grind arith

affords_fuel : (l : Left) (v : Tm) → affords l v ≡ true → 0 < l.fuel
affords_fuel l v e = by_test (l.fuel == 0) _ (λ z. let f : false ≡ true = (rw z at e) in cc) (λ z. let f = not_zero l.fuel z in grind arith)

module _ (k : Known) (d F : ℕ) where
  hold_total : ((l : Left) (t : Tm) → l.fuel ≤ F → Simplified k d l t) → (ps : List Tm) (l : Left) → l.fuel ≤ F → Held k d l ps
  hold_total f [] l h = record { all = true; left = l; by = all_hold }
  hold_total f (p ∷ ps) l h =
      let a : Simplified k d l p = f l p h in
      let less = simplifies_falls a.by in
      by_test (term_eq a.term true_constant) _
      (λ yes. let b : Held k d a.left ps = hold_total f ps a.left (omega (arith, less.fuel)) in record { all = b.all; left = b.left; by = holds p a.term ps b.all a.by yes b.by })
      (λ no. record { all = false; left = a.left; by = fails p a.term ps a.by no })

module _ (k : Known) (d F : ℕ) (deeper : nat_le 3 d ≡ false → (l : Left) (t : Tm) → l.fuel ≤ F → Simplified k (d + 1) l t) where
  conditions_total : (i : Inst) (ps : List Tm) → (nat_le 3 d && has_any ps) ≡ false → (l : Left) → l.fuel ≤ F → Held k (d + 1) l (map (instance i) ps)
  conditions_total i [] e l h = record { all = true; left = l; by = all_hold }
  conditions_total i (p ∷ ps) e l h =
      by_test (nat_le 3 d) _ (λ yes. let f : true ≡ false = (rw yes at e) in cc)
      (λ no. hold_total k (d + 1) F (deeper no) (map (instance i) (p ∷ ps)) l h)

  rules_total : (rs : List Rule) (t : Tm) (l : Left) → l.fuel ≤ F → FoundRule k d l rs t
  rules_total [] t l h = record { made = None; left = l; by = no_rule t }
  rules_total (r ∷ rs) t l h =
      by_test (is_too_deep d r) _
      (λ yes. let a : FoundRule k d l rs t = rules_total rs t l h in record { made = a.made; left = a.left; by = too_deep r rs t a.made yes a.by })
      (λ no. by_option (matched_term nothing r.lhs t) _
      (λ none. let a : FoundRule k d l rs t = rules_total rs t l h in record { made = a.made; left = a.left; by = no_instance r rs t a.made (unmatched r.lhs t none) a.by })
      (λ i some.
      let m : Matches i r.lhs t = record { by = matched_instance r.lhs t i some; own = matched_own r.lhs t i some } in
      let c : Held k (d + 1) l (map (instance i) r.conds) = conditions_total i r.conds no l h in
      by_test c.all _
      (λ all. record { made = Some (instance i r.rhs); left = c.left; by = used r rs t i no m (rw all at c.by) })
      (λ some_fails. let less = hold_falls c.by in
      let a : FoundRule k d c.left rs t = rules_total rs t c.left (omega (arith, less.fuel)) in
      record { made = a.made; left = a.left; by = unused r rs t a.made i no m (rw some_fails at c.by) a.by })))

  found_total : (t : Tm) (l : Left) → l.fuel ≤ F → Found k d l t
  found_total t l h =
      by_test (l.fuel == 0) _
      (λ yes. record { made = None; left = l; by = no_fuel t (is_zero l.fuel yes) })
      (λ no. by_option (made_at_once k.facts t) _
      (λ none. let a : FoundRule k d l k.rules t = rules_total k.rules t l h in record { made = a.made; left = a.left; by = by_rules t a.made (not_zero l.fuel no) none a.by })
      (λ u some. record { made = Some u; left = l; by = at_once t u (not_zero l.fuel no) some }))

  module _ (below : (c : ℕ) (l : Left) (t : Tm) → l.fuel < F → Simplified k c l t) where
    gone_total : (t : Tm) (o : Option Tm) (l : Left) → l.fuel ≤ F → Gone k d l t o
    gone_total t None l h = record { term = t; left = l; by = stays t }
    gone_total t (Some v) l h =
        by_test (affords l v) _
        (λ yes. let p = affords_fuel l v yes in
        let a : Simplified k d (paid l v) v = below d (paid l v) v (omega arith) in
        record { term = a.term; left = a.left; by = continues t v a.term yes a.by })
        (λ no. record { term = t; left = emptied l; by = ends t v no })

    rewritten_total : (t : Tm) (l : Left) → l.fuel ≤ F → Rewritten k d l t
    rewritten_total t l h =
        let a : Found k d (stepped l) t = found_total t (stepped l) h in
        let less = finds_falls a.by in
        let b : Gone k d a.left t a.made = gone_total t a.made a.left (omega (arith, less.fuel)) in
        record { term = b.term; left = b.left; by = rewriting t b.term a.made a.by b.by }

    other_total : (t : Tm) → (e : (u : Tm) (l m : Left) → Rewrites k d (stepped l) t u m → Simplifies k d l t u m) → (l : Left) → l.fuel ≤ F → Simplified k d l t
    other_total t e l h =
        let a : Rewritten k d (stepped l) t = rewritten_total t (stepped l) h in
        record { term = a.term; left = a.left; by = e a.term l a.left a.by }

    walk_total : (S : ℕ) (t : Tm) → size_of t ≤ S → (l : Left) → l.fuel ≤ F → Simplified k d l t
    walk_total zero t small l h = let p = pos_size t in absurd (omega arith)
    walk_total (suc S) (bound n) small l h = other_total (bound n) (λ u l m a. other (bound n) u refl a) l h
    walk_total (suc S) (free b s) small l h = other_total (free b s) (λ u l m a. other (free b s) u refl a) l h
    walk_total (suc S) (constant b s) small l h = other_total (constant b s) (λ u l m a. other (constant b s) u refl a) l h
    walk_total (suc S) (app f x) small l h =
        let a : Simplified k d (stepped l) f = walk_total S f (omega arith) (stepped l) h in
        let less = simplifies_falls a.by in
        let b : Simplified k d a.left x = walk_total S x (omega arith) a.left (omega (arith, less.fuel)) in
        let less' = simplifies_falls b.by in
        let c : Rewritten k d b.left (app a.term b.term) = rewritten_total (app a.term b.term) b.left (omega (arith, less.fuel, less'.fuel)) in
        record { term = c.term; left = c.left; by = application {o = c.left} f x a.term b.term c.term a.by b.by c.by }
    walk_total (suc S) (abs s x) small l h =
        let w = fresh_name k.names (abs s x) in
        let e = opened_size 0 w s x in
        let a : Simplified k d (stepped l) (opened 0 (free w s) x) = walk_total S (opened 0 (free w s) x) (omega arith) (stepped l) h in
        record { term = _; left = a.left; by = abstraction s x a.term a.by }

module _ (k : Known) where
  depth_total : (F : ℕ) → ((c : ℕ) (l : Left) (t : Tm) → l.fuel < F → Simplified k c l t) → (D d : ℕ) → 3 ≤ d + D → (l : Left) (t : Tm) → l.fuel ≤ F → Simplified k d l t
  depth_total F below zero d far l t h = walk_total k d F (λ no. absurd (grind (arith))) below (size_of t) t (omega arith) l h
  depth_total F below (suc D) d far l t h = walk_total k d F (λ _ l t h. depth_total F below D (d + 1) (omega arith) l t h) below (size_of t) t (omega arith) l h

  fuel_total : (F : ℕ) (c : ℕ) (l : Left) (t : Tm) → l.fuel < F → Simplified k c l t
  fuel_total zero c l t h = absurd (omega arith)
  fuel_total (suc F) c l t h = depth_total F (fuel_total F) 3 c (omega arith) l t (omega arith)

  pub simplified : (d : ℕ) (l : Left) (t : Tm) → Simplified k d l t
  simplified d l t = fuel_total (l.fuel + 1) d l t (omega arith)

  pub rewritten : (d : ℕ) (l : Left) (t : Tm) → Rewritten k d l t
  rewritten d l t = rewritten_total k d l.fuel (λ _ m u _. simplified (d + 1) m u) (λ c m u _. simplified c m u) t l (omega arith)

  pub gone : (d : ℕ) (l : Left) (t : Tm) (o : Option Tm) → Gone k d l t o
  gone d l t o = gone_total k d l.fuel (λ _ m u _. simplified (d + 1) m u) (λ c m u _. simplified c m u) t o l (omega arith)

  pub found_rule : (d : ℕ) (l : Left) (rs : List Rule) (t : Tm) → FoundRule k d l rs t
  found_rule d l rs t = rules_total k d l.fuel (λ _ m u _. simplified (d + 1) m u) rs t l (omega arith)

  pub held : (d : ℕ) (l : Left) (ps : List Tm) → Held k d l ps
  held d l ps = hold_total k d l.fuel (λ m u _. simplified d m u) ps l (omega arith)
