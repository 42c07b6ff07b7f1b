-- A split makes the gap smaller.
use Rattle.std.proofs.Common.{◌≡◌, ◌≤◌, ◌<◌, ℕ, Bool, true, false, cond, ◌&&◌, List, [], ◌∷◌, length, get_or, refl, ap, arith, suc, zero}
use Rattle.std.specs.Prelude.{Option, Some, None, map}
use Rattle.std.specs.Str.{bytes_eq}
use Rattle.std.proofs.lemmas.Option.{none-some, same_Some}
use Rattle.std.proofs.lemmas.Slice.Eq.{bytes_eq-Decides}
use Rattle.fp_term.specs.Types.{Typ, type_eq}
use Rattle.fp_term.specs.Terms.{Tm, bound, free, constant, app, abs, or_else, replaced}
use Rattle.fp_term.specs.declared.signature.Signature.{Signature}
use Rattle.fp_term.proofs.Equal.{type_eq-decides}
use Rattle.fp_group.specs.declared.clause.Clause.{Clause}
use Rattle.fp_pattern.specs.Subtraction.{met, first_of, first_met, numbered, IsFilled, full, one_more, IsPart, AreParts, no_more, unfit, fit}
use Rattle.fp_pattern.specs.Gaps.{weight, gap, gaps, most}

Pairs : Type 0
Pairs = List (List ℕ × Typ × Tm)

gap_weight : (p q : Tm) → gap p q ≤ weight q
gap_weight (bound n) q = omega arith
gap_weight (free x s) q = omega arith
gap_weight (constant a s) q = omega arith
gap_weight (app f x) (bound n) = omega arith
gap_weight (app f x) (free y t) = omega arith
gap_weight (app f x) (constant b t) = omega arith
gap_weight (app f x) (app g y) = omega (arith, gap_weight f g, gap_weight x y)
gap_weight (app f x) (abs t y) = omega arith
gap_weight (abs s x) q = omega arith

chosen_gap : (b : Bool) (v q : Tm) (a : List ℕ) (t : Typ) → gap (or_else (cond {A = Option Tm} b (Some v) None) (free a t)) q ≤ weight q
chosen_gap true v q a t = gap_weight v q
chosen_gap false v q a t = omega arith

-- no replacement makes a gap larger
gap_replaced : (x : List ℕ) (s : Typ) (v p q : Tm) → gap (replaced ((x, s, v) ∷ []) p) q ≤ gap p q
gap_replaced x s v (bound n) q = omega arith
gap_replaced x s v (free a t) q = chosen_gap (bytes_eq x a && type_eq s t) v q a t
gap_replaced x s v (constant a t) q = omega arith
gap_replaced x s v (app f y) (bound n) = omega arith
gap_replaced x s v (app f y) (free a t) = omega arith
gap_replaced x s v (app f y) (constant a t) = omega arith
gap_replaced x s v (app f y) (app g z) = omega (arith, gap_replaced x s v f g, gap_replaced x s v y z)
gap_replaced x s v (app f y) (abs t z) = omega arith
gap_replaced x s v (abs t y) q = omega arith

-- a constructor, applied or not
abbrev pub solid : Tm → Bool
solid (constant a s) = true
solid (app f x) = true
solid _ = false

gap_solid : (v q : Tm) → solid v ≡ true → solid q ≡ true → gap v q < weight q
gap_solid (constant a s) (constant b t) h k = omega arith
gap_solid (constant a s) (app g y) h k = omega arith
gap_solid (app f x) (constant b t) h k = omega arith
gap_solid (app f x) (app g y) h k = omega (arith, gap_weight f g, gap_weight x y)
gap_solid (constant a s) (bound n) h k = cc
gap_solid (constant a s) (free b t) h k = cc
gap_solid (constant a s) (abs t y) h k = cc
gap_solid (app f x) (bound n) h k = cc
gap_solid (app f x) (free b t) h k = cc
gap_solid (app f x) (abs t y) h k = cc
gap_solid (bound n) q h k = cc
gap_solid (free a s) q h k = cc
gap_solid (abs s x) q h k = cc

-- the variable itself is replaced
replaced_here : (a : List ℕ) (t : Typ) (v : Tm) → replaced ((a, t, v) ∷ []) (free a t) ≡ v
replaced_here a t v = rw ((bytes_eq-Decides a a).1 refl, (type_eq-decides t t).1 refl) refl

pub same_pair : (a x : List ℕ) (t s : Typ) → ◌≡◌ {A = Option (List ℕ × Typ)} (Some (a, t)) (Some (x, s)) → (a ≡ x) × (t ≡ s)
same_pair a x t s e = let p : ◌≡◌ {A = List ℕ × Typ} (a, t) (x, s) = same_Some _ _ e in (ap (λ (z : List ℕ × Typ). z.0) p, ap (λ (z : List ℕ × Typ). z.1) p)

met_here : (a x : List ℕ) (t s : Typ) (v q : Tm) → solid v ≡ true → solid q ≡ true → ◌≡◌ {A = Option (List ℕ × Typ)} (Some (a, t)) (Some (x, s)) → gap (replaced ((x, s, v) ∷ []) (free a t)) q < weight q
met_here a x t s v q h k e = let p = same_pair a x t s e in rw (← p.0, ← p.1, replaced_here a t v) (gap_solid v q h k)

pub first_cases : (o later : Option (List ℕ × Typ)) (z : List ℕ × Typ) (P : Type 0) → (o ≡ Some z → P) → (later ≡ Some z → P) → first_of o later ≡ Some z → P
first_cases None later z P f g e = g e
first_cases (Some y) later z P f g e = f e

gap_met : (x : List ℕ) (s : Typ) (v : Tm) → solid v ≡ true → (p q : Tm) → met p q ≡ Some (x, s) → gap (replaced ((x, s, v) ∷ []) p) q < gap p q
gap_met x s v h (free a t) (constant b u) e = met_here a x t s v (constant b u) h refl e
gap_met x s v h (free a t) (app g y) e = met_here a x t s v (app g y) h refl e
gap_met x s v h (app f y) (app g z) e =
    first_cases (met f g) (met y z) (x, s) _ (λ k. omega (arith, gap_met x s v h f g k, gap_replaced x s v y z)) (λ k. omega (arith, gap_replaced x s v f g, gap_met x s v h y z k)) e
gap_met x s v h (free a t) (bound n) e = absurd (none-some _ e)
gap_met x s v h (free a t) (free b u) e = absurd (none-some _ e)
gap_met x s v h (free a t) (abs u y) e = absurd (none-some _ e)
gap_met x s v h (app f y) (bound n) e = absurd (none-some _ e)
gap_met x s v h (app f y) (free b u) e = absurd (none-some _ e)
gap_met x s v h (app f y) (constant b u) e = absurd (none-some _ e)
gap_met x s v h (app f y) (abs u z) e = absurd (none-some _ e)
gap_met x s v h (bound n) q e = absurd (none-some _ e)
gap_met x s v h (constant a t) q e = absurd (none-some _ e)
gap_met x s v h (abs t y) q e = absurd (none-some _ e)

gaps_replaced : (x : List ℕ) (s : Typ) (v : Tm) (ps qs : List Tm) → gaps (map (replaced ((x, s, v) ∷ [])) ps) qs ≤ gaps ps qs
gaps_replaced x s v [] qs = omega arith
gaps_replaced x s v (p ∷ ps) [] = omega arith
gaps_replaced x s v (p ∷ ps) (q ∷ qs) = omega (arith, gap_replaced x s v p q, gaps_replaced x s v ps qs)

gaps_met : (x : List ℕ) (s : Typ) (v : Tm) → solid v ≡ true → (ps qs : List Tm) → first_met ps qs ≡ Some (x, s) → gaps (map (replaced ((x, s, v) ∷ [])) ps) qs < gaps ps qs
gaps_met x s v h [] qs e = absurd (none-some _ e)
gaps_met x s v h (p ∷ ps) [] e = absurd (none-some _ e)
gaps_met x s v h (p ∷ ps) (q ∷ qs) e =
    first_cases (met p q) (first_met ps qs) (x, s) _ (λ k. omega (arith, gap_met x s v h p q k, gaps_replaced x s v ps qs)) (λ k. omega (arith, gap_replaced x s v p q, gaps_met x s v h ps qs k)) e

pub filled_solid : (f : List ℕ) (c : Clause) (head : Tm) (s : Typ) (value : Tm) → IsFilled f c head s value → solid head ≡ true → solid value ≡ true
filled_solid f c _ _ _ (full head s off) h = h
filled_solid f c _ _ _ (one_more n head s a b value is new more) h = filled_solid f c (app head (free (numbered n) a)) b value more refl

-- each part of a split has a smaller gap than the clause
module _ (sig : Signature) (f : List ℕ) (c : Clause) (x : List ℕ) (s : Typ) (q : List Tm) (here : first_met c.patterns q ≡ Some (x, s)) where
  part_smaller : (con : List ℕ) (part : Clause) → IsPart sig f c x s con part → gaps part.patterns q < gaps c.patterns q
  part_smaller con part is = rw is.is (gaps_met x s is.value (filled_solid f c (constant con is.type) is.type is.value is.filled refl) c.patterns q here)

  pub parts_smaller : (cons : List (List ℕ)) (parts : List Clause) → AreParts sig f c x s cons parts → most parts q < gaps c.patterns q
  parts_smaller _ _ no_more = omega (arith, gaps_met x s (constant [] s) refl c.patterns q here)
  parts_smaller _ _ (unfit con cons parts off more) = parts_smaller cons parts more
  parts_smaller _ _ (fit con cons part parts is more) = omega (arith, part_smaller con part is, parts_smaller cons parts more)

pub most_at : (q : List Tm) (cs : List Clause) (i : ℕ) (c : Clause) → i < length cs → c ≡ get_or cs i c → gaps c.patterns q ≤ most cs q
most_at q [] i c lt e = omega arith
most_at q (d ∷ cs) zero c lt e = rw e (omega arith)
most_at q (d ∷ cs) (suc i) c lt e = let k : i < length cs = omega arith in omega (arith, most_at q cs i c k e)
