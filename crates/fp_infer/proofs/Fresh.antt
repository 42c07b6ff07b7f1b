-- Names for all types of which nothing is known: those that were given, and others for those that don't occur.
use Rattle.std.proofs.Common.{◌≡◌, ◌∙◌, ℕ, zero, suc, ◌+◌, ◌<◌, ◌≤◌, ◌^◌, ◌%◌, ◌==◌, ◌||◌, Bool, true, false, cond, List, [], ◌∷◌, ◌++◌, length, replicate, refl, sym, ap, arith}
use Rattle.std.specs.Prelude.{Option, Some, None}
use Rattle.std.specs.Str.{bytes_eq}
use Rattle.std.proofs.lemmas.Bool.{both_ways}
use Rattle.std.proofs.lemmas.Bool.Decides.{Decides-eqb}
use Rattle.std.proofs.lemmas.List.{length-replicate}
use Rattle.std.proofs.lemmas.Option.{none-some, same_Some}
use Rattle.std.proofs.lemmas.Slice.Eq.{bytes_eq-Decides}
use Rattle.fp_term.specs.Variables.{is_among}
use Rattle.fp_unify.specs.Cells.{cell}
use Rattle.fp_unify.specs.Candidates.{candidate, fresh_before}
use Rattle.fp_unify.specs.General.{Naming}
use Rattle.fp_unify.specs.Naming.{Pairs, name_of, names_of}
use Rattle.fp_unify.proofs.Named.{fresh_apart}
use Rattle.fp_unify.specs.declared.table.Shape.{Shape}
use Rattle.fp_unify.specs.declared.table.Shape.TheVariants.{Open}

pub total : List (List ℕ) → ℕ
total [] = 0
total (a ∷ names) = length a + total names

-- names longer than all written ones, that begin as no candidate does
pub far : List (List ℕ) → ℕ → List ℕ
far written i = 0 ∷ replicate (total written + i) 0

differ_by : (b a : List ℕ) (r : Bool) → bytes_eq b a ≡ r → (b ≡ a → ⊥) → r ≡ false
differ_by b a true e ne = absurd (ne ((bytes_eq-Decides b a).0 e))
differ_by b a false e ne = refl

differ : (b a : List ℕ) → (b ≡ a → ⊥) → bytes_eq b a ≡ false
differ b a ne = differ_by b a (bytes_eq b a) refl ne

not_either : (a b : Bool) → a ≡ false → b ≡ false → (a || b) ≡ false
not_either a b e f = rw (e, f) refl

long_unwritten : (names : List (List ℕ)) (a : List ℕ) → total names < length a → is_among names a ≡ false
unfolding total
long_unwritten [] a h = refl
long_unwritten (b ∷ names) a h =
    not_either _ _ (differ b a (λ same. let e : length b ≡ length a = ap length same in omega arith)) (long_unwritten names a (omega arith))

length_far : (written : List (List ℕ)) (i : ℕ) → length (far written i) ≡ total written + i + 1
unfolding far
length_far written i = omega (arith, length-replicate {A = ℕ} (total written + i) 0)

pub far_unwritten : (written : List (List ℕ)) (i : ℕ) → is_among written (far written i) ≡ false
far_unwritten written i = long_unwritten written (far written i) (omega (arith, length_far written i))

pub far_apart : (written : List (List ℕ)) (i j : ℕ) → far written i ≡ far written j → i ≡ j
far_apart written i j e = let l : length (far written i) ≡ length (far written j) = ap length e in omega (arith, length_far written i, length_far written j)

candidate_far : (written : List (List ℕ)) (k i : ℕ) → candidate k ≡ far written i → ⊥
unfolding far
candidate_far written k i e = let first : 97 + k % 26 ≡ 0 = cc in omega arith

among_push : (xs : List (List ℕ)) (y a : List ℕ) → is_among xs a ≡ false → bytes_eq y a ≡ false → is_among (xs ++ y ∷ []) a ≡ false
among_push [] y a h e = rw e refl
among_push (x ∷ xs) y a h e = elim (bytes_eq x a) as (λ b. (b || is_among xs a) ≡ false → (b || is_among (xs ++ y ∷ []) a) ≡ false) [ true ↦ λ f. cc | false ↦ λ f. among_push xs y a f e ] h

among_last : (xs : List (List ℕ)) (y a : List ℕ) (r : Bool) → bytes_eq y a ≡ r → is_among (xs ++ y ∷ []) a ≡ true → is_among xs a ≡ false → bytes_eq y a ≡ true
among_last xs y a true e h f = e
among_last xs y a false e h f = absurd (both_ways _ (among_push xs y a f e) h)

-- what holds of the names given
module _ (written : List (List ℕ)) where
  far_unused_by : (k i : ℕ) (b : Bool) → is_among (fresh_before written k) (far written i) ≡ false → is_among (cond b (fresh_before written k) (fresh_before written k ++ candidate k ∷ [])) (far written i) ≡ false
  far_unused_by k i true h = h
  far_unused_by k i false h = among_push (fresh_before written k) (candidate k) (far written i) h (differ (candidate k) (far written i) (candidate_far written k i))

  far_unused : (k i : ℕ) → is_among (fresh_before written k) (far written i) ≡ false
  far_unused zero i = refl
  far_unused (suc k) i = far_unused_by k i (is_among written (candidate k)) (far_unused k i)

  fresh_by : (k : ℕ) (a : List ℕ) (b c : Bool) → is_among written (candidate k) ≡ b → is_among (fresh_before written k) a ≡ c → (is_among (fresh_before written k) a ≡ true → is_among written a ≡ false) →
      is_among (cond b (fresh_before written k) (fresh_before written k ++ candidate k ∷ [])) a ≡ true → is_among written a ≡ false
  fresh_by k a true c e f h m = h m
  fresh_by k a false true e f h m = h f
  fresh_by k a false false e f h m = let same = (bytes_eq-Decides (candidate k) a).0 (among_last (fresh_before written k) (candidate k) a (bytes_eq (candidate k) a) refl m f) in rw (← same) e

  fresh_unwritten : (k : ℕ) (a : List ℕ) → is_among (fresh_before written k) a ≡ true → is_among written a ≡ false
  fresh_unwritten zero a h = cc
  fresh_unwritten (suc k) a h = fresh_by k a (is_among written (candidate k)) (is_among (fresh_before written k) a) refl refl (fresh_unwritten k a) h

abbrev Distinct : List (List ℕ) → Type 0
Distinct [] = Unit {0}
Distinct (a ∷ names) = (is_among names a ≡ false) × Distinct names

apart_first : (x a : List ℕ) (xs : List (List ℕ)) → is_among (x ∷ xs) a ≡ false → (bytes_eq x a ≡ false) × (is_among xs a ≡ false)
apart_first x a xs h = elim (bytes_eq x a) as (λ b. (b || is_among xs a) ≡ false → (b ≡ false) × (is_among xs a ≡ false)) [ true ↦ λ e. cc | false ↦ λ e. (refl, e) ] h

turned : (x a : List ℕ) → bytes_eq x a ≡ false → bytes_eq a x ≡ false
turned x a e = differ a x (λ same. both_ways (bytes_eq x a) e ((bytes_eq-Decides x a).1 (sym same)))

distinct_push : (xs : List (List ℕ)) (a : List ℕ) → Distinct xs → is_among xs a ≡ false → Distinct (xs ++ a ∷ [])
distinct_push [] a d h = (refl, tt)
distinct_push (x ∷ xs) a d h = let p = apart_first x a xs h in (among_push xs a x d.0 (turned x a p.0), distinct_push xs a d.1 p.1)

fresh_distinct : (written : List (List ℕ)) (k : ℕ) → k < 2 ^ 64 → Distinct (fresh_before written k)
fresh_distinct written zero h = tt
fresh_distinct written (suc k) h =
    elim (is_among written (candidate k)) as (λ b. Distinct (cond b (fresh_before written k) (fresh_before written k ++ candidate k ∷ [])))
    [ true ↦ fresh_distinct written k (omega arith) | false ↦ distinct_push (fresh_before written k) (candidate k) (fresh_distinct written k (omega arith)) (fresh_apart written k k (omega arith) (omega arith)) ]

found_named : (i : ℕ) (a : List ℕ) (pairs : Pairs) → name_of i pairs ≡ Some a → is_among (names_of pairs) a ≡ true
found_named i a [] e = absurd (none-some a e)
found_named i a (p ∷ pairs) e =
    elim (p.0 == i) as (λ b. cond b (Some p.1) (name_of i pairs) ≡ Some a → (bytes_eq p.1 a || is_among (names_of pairs) a) ≡ true)
    [ true ↦ λ f. rw ((bytes_eq-Decides p.1 a).1 (same_Some p.1 a f)) refl | false ↦ λ f. rw (found_named i a pairs f) (elim (bytes_eq p.1 a) as (λ b. (b || true) ≡ true) [ true ↦ refl | false ↦ refl ]) ] e

once_by : (p : ℕ × List ℕ) (pairs : Pairs) (i j : ℕ) (a : List ℕ) (b c : Bool) → is_among (names_of pairs) p.1 ≡ false → (p.0 == i) ≡ b → (p.0 == j) ≡ c → (name_of i pairs ≡ Some a → name_of j pairs ≡ Some a → i ≡ j) →
    cond b (Some p.1) (name_of i pairs) ≡ Some a → cond c (Some p.1) (name_of j pairs) ≡ Some a → i ≡ j
once_by p pairs i j a true true n e f h x y = sym ((Decides-eqb p.0 i).0 e) ∙ (Decides-eqb p.0 j).0 f
once_by p pairs i j a true false n e f h x y = absurd (both_ways (is_among (names_of pairs) a) (rw (same_Some p.1 a x) at n) (found_named j a pairs y))
once_by p pairs i j a false true n e f h x y = absurd (both_ways (is_among (names_of pairs) a) (rw (same_Some p.1 a y) at n) (found_named i a pairs x))
once_by p pairs i j a false false n e f h x y = h x y

name_once : (pairs : Pairs) (i j : ℕ) (a : List ℕ) → Distinct (names_of pairs) → name_of i pairs ≡ Some a → name_of j pairs ≡ Some a → i ≡ j
name_once [] i j a d e f = absurd (none-some a e)
name_once (p ∷ pairs) i j a d e f = once_by p pairs i j a (p.0 == i) (p.0 == j) d.0 refl refl (name_once pairs i j a d.1) e f

pub pick : Option (List ℕ) → List ℕ → List ℕ
pick None a = a
pick (Some b) a = b

-- the name of each type of which nothing is known
pub name_at : List (List ℕ) → Pairs → ℕ → List ℕ
name_at written pairs i = pick (name_of i pairs) (far written i)

pub name_known : (written : List (List ℕ)) (pairs : Pairs) (i : ℕ) (a : List ℕ) → name_of i pairs ≡ Some a → name_at written pairs i ≡ a
unfolding pick name_at
name_known written pairs i a e = rw e refl

module _ (cells : List Shape) (written : List (List ℕ)) (next : ℕ) (pairs : Pairs) (small : next < 2 ^ 64) (are : names_of pairs ≡ fresh_before written next) where
  apart_by : (i j : ℕ) (o p : Option (List ℕ)) → name_of i pairs ≡ o → name_of j pairs ≡ p → pick o (far written i) ≡ pick p (far written j) → i ≡ j
  unfolding pick
  apart_by i j None None e f h = far_apart written i j h
  apart_by i j None (Some b) e f h = absurd (both_ways (is_among (names_of pairs) b) (rw (are, ← h) (far_unused written next i)) (found_named j b pairs f))
  apart_by i j (Some a) None e f h = absurd (both_ways (is_among (names_of pairs) a) (rw (are, h) (far_unused written next j)) (found_named i a pairs e))
  apart_by i j (Some a) (Some b) e f h = name_once pairs i j a (rw are (fresh_distinct written next small)) e (f ∙ ap Some (sym h))

  unwritten_by : (i : ℕ) (o : Option (List ℕ)) → name_of i pairs ≡ o → is_among written (pick o (far written i)) ≡ false
  unfolding pick
  unwritten_by i None e = far_unwritten written i
  unwritten_by i (Some a) e = fresh_unwritten written next a (rw are at (found_named i a pairs e))

  pub naming : Naming cells written (name_at written pairs)
  unfolding name_at
  naming =
      record {
        apart = λ i j x y e. apart_by i j (name_of i pairs) (name_of j pairs) refl refl e;
        unwritten = λ i x. unwritten_by i (name_of i pairs) refl;
      }
