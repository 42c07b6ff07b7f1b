-- The forced columns are the longest front that all fillings share.
use Rattle.std.proofs.Common.{◌≡◌, ◌⊎◌, ◌<◌, ℕ, zero, suc, List, [], ◌∷◌, ◌++◌, length, get_or, refl, arith, inl, inr, sym, ◌∙◌, subst, Option, Some, None}
use Rattle.fp_order.specs.declared.entry.Entry.{Entry}
use Rattle.fp_order.specs.declared.entry.Entry.TheVariants.{Less, Leq, Unknown}
use Rattle.fp_order.specs.Orders.{IsDecided, IsBest}
use Rattle.fp_order.specs.Greedy.{Fits, IsNext}
use Rattle.fp_order.proofs.Cons.{Rest}
use Rattle.fp_order.proofs.Best.{best_end, best_step, best_rows, front_fits}
use Rattle.fp_order.proofs.Laws.{decided_left, kept_undecided}
use Rattle.fp_order.proofs.Exists.{IsRows, rows_below, best_exists, best_front}
use Rattle.fp_shown.specs.Fillings.{entries_of, IsFilling, IsFrontOf, IsForced, IsShownRow, KnowsMore}
use Rattle.fp_shown.specs.Known.{known_at, IsSkipped, IsOpen, IsStuck}
use Rattle.fp_shown.proofs.Forces.{KnownRest, Forces, After, Agrees, known_rows, sure_next, known_rest, rest_known, skipped_never_fits, forced_split, decided_at_one, left_kept, forces_exists}

-- the filling with one entry at each cell that is not known
pub filled_with : Entry → List (Option Entry) → List Entry
filled_with v [] = []
filled_with v (None ∷ k) = v ∷ filled_with v k
filled_with v (Some x ∷ k) = x ∷ filled_with v k

filled_len : (v : Entry) (k : List (Option Entry)) → length (filled_with v k) ≡ length k
unfolding filled_with
filled_len v [] = refl
filled_len v (None ∷ k) = omega (arith, filled_len v k)
filled_len v (Some x ∷ k) = omega (arith, filled_len v k)

filled_agrees : (v : Entry) (k : List (Option Entry)) (i : ℕ) (x : Entry) → get_or k i None ≡ Some x → get_or (filled_with v k) i Unknown ≡ x
unfolding filled_with
filled_agrees v [] i x h = cc
filled_agrees v (None ∷ k) zero x h = cc
filled_agrees v (Some y ∷ k) zero x h = cc
filled_agrees v (None ∷ k) (suc i) x h = filled_agrees v k i x h
filled_agrees v (Some y ∷ k) (suc i) x h = filled_agrees v k i x h

filled_hole : (v : Entry) (k : List (Option Entry)) (i : ℕ) → i < length k → get_or k i None ≡ None → get_or (filled_with v k) i Unknown ≡ v
unfolding filled_with
filled_hole v [] i l h = absurd (omega arith)
filled_hole v (None ∷ k) zero l h = refl
filled_hole v (Some y ∷ k) zero l h = cc
filled_hole v (None ∷ k) (suc i) l h = filled_hole v k i (omega arith) h
filled_hole v (Some y ∷ k) (suc i) l h = filled_hole v k i (omega arith) h

pub filled_fills : (v : Entry) (k : List (Option Entry)) → IsFilling k (filled_with v k)
filled_fills v k = record { len = filled_len v k; agrees = filled_agrees v k }

pub fills_agrees : (at : ℕ → ℕ → ℕ) (known : List (Option Entry)) (full : List Entry) → IsFilling known full → Agrees (known_at at known) (entries_of at full)
fills_agrees at known full f c r v h = f.agrees (at c r) v h

-- the cells of the columns on the rows are cells of the list
abbrev pub IsInside : (ℕ → ℕ → ℕ) → ℕ → (ℕ → Type 0) → List (Option Entry) → Type 0
IsInside at n R known = (c r : ℕ) → c < n → R r → at c r < length known

less_or_leq : (at : ℕ → ℕ → ℕ) (known : List (Option Entry)) (c r : ℕ) → at c r < length known → (x : Option Entry) → known_at at known c r ≡ x → (x ≡ Some Unknown → ⊥) →
    (entries_of at (filled_with Less known) c r ≡ Less) ⊎ (entries_of at (filled_with Less known) c r ≡ Leq)
less_or_leq at known c r l (Some Less) s h = inl (filled_agrees Less known (at c r) Less s)
less_or_leq at known c r l (Some Leq) s h = inr (filled_agrees Less known (at c r) Leq s)
less_or_leq at known c r l (Some Unknown) s h = absurd (h refl)
less_or_leq at known c r l None s h = inl (filled_hole Less known (at c r) l s)

-- an open column comes next where its holes are Less, and does not fit where they are Unknown
open_next : (at : ℕ → ℕ → ℕ) (n : ℕ) (known : List (Option Entry)) (R : ℕ → Type 0) → IsInside at n R known → (j : ℕ) → j < n →
    ((d : ℕ) → d < j → IsSkipped (known_at at known) R d) → IsOpen (known_at at known) R j → IsNext (entries_of at (filled_with Less known)) n R j
open_next at n known R in_list j l before o = record {
  below = l;
  fits = record {
    known = λ r h. less_or_leq at known j r (in_list j r l h) (known_at at known j r) refl (o.fine r h);
    some = (o.hole.0, o.hole.1, filled_hole Less known (at j o.hole.0) (in_list j o.hole.0 l o.hole.1) o.hole.2);
  };
  first = λ d k f. skipped_never_fits (known_at at known) (entries_of at (filled_with Less known)) R d (fills_agrees at known (filled_with Less known) (filled_fills Less known)) (before d k) f;
}

open_unfit : (at : ℕ → ℕ → ℕ) (n : ℕ) (known : List (Option Entry)) (R : ℕ → Type 0) → IsInside at n R known → (j : ℕ) → j < n →
    IsOpen (known_at at known) R j → Fits (entries_of at (filled_with Unknown known)) R j → ⊥
open_unfit at n known R in_list j l o f =
    let u = filled_hole Unknown known (at j o.hole.0) (in_list j o.hole.0 l o.hole.1) o.hole.2 in
    elim (f.known o.hole.0 o.hole.1) [ inl m ↦ cc | inr m ↦ cc ]

stuck_ends : (at : ℕ → ℕ → ℕ) (n : ℕ) (known : List (Option Entry)) (R : ℕ → Type 0) → IsRows R → IsInside at n R known → IsStuck (known_at at known) n R → (x : ℕ) (xs : List ℕ) →
    ((full : List Entry) → IsFilling known full → (best : List ℕ) → IsBest (entries_of at full) n R best → IsFrontOf (x ∷ xs) best) → ⊥
stuck_ends at n known R rows in_list (inl all) x xs h =
    let e = entries_of at (filled_with Unknown known) in
    let f = filled_fills Unknown known in
    let w = h (filled_with Unknown known) f [] (best_end e n R (λ d l. skipped_never_fits (known_at at known) e R d (fills_agrees at known (filled_with Unknown known) f) (all d l))) in
    let q = w.1 in cc
stuck_ends at n known R rows in_list (inr (j, l, before, o)) x xs h =
    let e = entries_of at (filled_with Less known) in
    let b = best_exists e n R rows in
    let w = h (filled_with Less known) (filled_fills Less known) b.0 b.1 in
    let g = best_front e n R rows j b.0 (open_next at n known R in_list j l before o) b.1 in
    let s : x ≡ j = let p = w.1 in let q = g.1 in cc in
    let a = entries_of at (filled_with Unknown known) in
    let d = best_exists a n R rows in
    let v = h (filled_with Unknown known) (filled_fills Unknown known) d.0 d.1 in
    let m : IsBest a n R (x ∷ (xs ++ v.0)) = subst (λ (y : List ℕ). IsBest a n R y) v.1 d.1 in
    open_unfit at n known R in_list j l o (subst (λ (y : ℕ). Fits a R y) s (front_fits a n R x (xs ++ v.0) m.choice))

pub forced_longest : (at : ℕ → ℕ → ℕ) (n : ℕ) (known : List (Option Entry)) (o : List ℕ) (R : ℕ → Type 0) → IsRows R → IsInside at n R known → Forces (known_at at known) n o R → (other : List ℕ) →
    ((full : List Entry) → IsFilling known full → (best : List ℕ) → IsBest (entries_of at full) n R best → IsFrontOf other best) → IsFrontOf other o
forced_longest at n known o R rows in_list f [] h = (o, refl)
forced_longest at n known [] R rows in_list f (x ∷ xs) h = absurd (stuck_ends at n known R rows in_list f x xs h)
forced_longest at n known (c ∷ o) R rows in_list f (x ∷ xs) h =
    let K = known_at at known in
    let e = entries_of at (filled_with Unknown known) in
    let b = best_exists e n R rows in
    let w = h (filled_with Unknown known) (filled_fills Unknown known) b.0 b.1 in
    let g = best_front e n R rows c b.0 (sure_next K e n R c (fills_agrees at known (filled_with Unknown known) (filled_fills Unknown known)) f.0) b.1 in
    let s : x ≡ c = let p = w.1 in let q = g.1 in cc in
    let rest = forced_longest at n known o (KnownRest K R c) (known_rows K R c rows) (λ d r l k. in_list d r l k.0) f.1 xs
    (λ full fills best k.
    let a = fills_agrees at known full fills in
    let E = entries_of at full in
    let t = h full fills (c ∷ best) (best_step E n R c best (sure_next K E n R c a f.0) (best_rows E n (KnownRest K R c) (Rest E R c) best (known_rest K E n R c a f.0) (rest_known K E n R c a f.0) k)) in
    (t.0, let p = t.1 in cc)) in
    (rest.0, let p = rest.1 in cc)

-- what the known cells force is forced
pub forces_forced : (at : ℕ → ℕ → ℕ) (n rows : ℕ) (known : List (Option Entry)) (o : List ℕ) → IsInside at n (λ r. r < rows) known → Forces (known_at at known) n o (λ r. r < rows) → IsForced at n rows known o
forces_forced at n rows known o in_list f = record {
  begins = λ full fills best b. let s = forced_split (known_at at known) (entries_of at full) n (fills_agrees at known full fills) o (λ r. r < rows) (rows_below rows) f best b in (s.0, s.1);
  longest = λ other h. forced_longest at n known o (λ r. r < rows) (rows_below rows) in_list f other h;
}

front_both : (a b : List ℕ) → IsFrontOf a b → IsFrontOf b a → a ≡ b
front_both [] [] p q = refl
front_both [] (y ∷ b) p q = let h = q.1 in cc
front_both (x ∷ a) [] p q = let h = p.1 in cc
front_both (x ∷ a) (y ∷ b) p q =
    let h = p.1 in let k = q.1 in
    let s : x ≡ y = cc in
    let t = front_both a b (p.0, cc) (q.0, cc) in cc

pub forced_unique : (at : ℕ → ℕ → ℕ) (n rows : ℕ) (known : List (Option Entry)) (a b : List ℕ) → IsForced at n rows known a → IsForced at n rows known b → a ≡ b
forced_unique at n rows known a b p q = front_both a b (q.longest a p.begins) (p.longest b q.begins)

-- a row is shown exactly where the forced columns do not leave it
pub shown_gone : (at : ℕ → ℕ → ℕ) (n rows : ℕ) (known : List (Option Entry)) (o : List ℕ) → IsInside at n (λ r. r < rows) known → Forces (known_at at known) n o (λ r. r < rows) →
    (row : ℕ) → IsShownRow at n rows known row → After (known_at at known) o (λ r. r < rows) row → ⊥
shown_gone at n rows known o in_list f row w h =
    let s = forced_unique at n rows known w.0 o w.1 (forces_forced at n rows known o in_list f) in
    let fills = filled_fills Unknown known in
    let e = entries_of at (filled_with Unknown known) in
    let d : IsDecided e o row = subst (λ (y : List ℕ). IsDecided e y row) s (w.2 (filled_with Unknown known) fills) in
    kept_undecided e o row ((left_kept (known_at at known) n o (λ r. r < rows) f row h).1 e (fills_agrees at known (filled_with Unknown known) fills)) d

pub gone_shown : (at : ℕ → ℕ → ℕ) (n rows : ℕ) (known : List (Option Entry)) (o : List ℕ) → IsInside at n (λ r. r < rows) known → Forces (known_at at known) n o (λ r. r < rows) →
    (row : ℕ) → row < rows → (After (known_at at known) o (λ r. r < rows) row → ⊥) → IsShownRow at n rows known row
gone_shown at n rows known o in_list f row l h =
    let t = decided_at_one (known_at at known) n o (λ r. r < rows) f row l h in
    (o, forces_forced at n rows known o in_list f, λ full fills. (t.0, t.1 (entries_of at full) (fills_agrees at known full fills)))

-- what is shown stays shown when more cells are known
pub shown_stays : (at : ℕ → ℕ → ℕ) (n rows : ℕ) (known more : List (Option Entry)) → IsInside at n (λ r. r < rows) known → KnowsMore known more →
    (row : ℕ) → IsShownRow at n rows known row → IsShownRow at n rows more row
shown_stays at n rows known more in_list k row w =
    let fewer : (full : List Entry) → IsFilling more full → IsFilling known full =
    λ full f. record { len = f.len ∙ k.len; agrees = λ i v h. f.agrees i v (k.keeps i v h) } in
    let o = forces_exists (known_at at more) n (λ r. r < rows) (rows_below rows) in
    let forced = forces_forced at n rows more o.0 (λ c r l h. omega (arith, in_list c r l h, k.len)) o.1 in
    let front = forced.longest w.0 (λ full f best b. w.1.begins full (fewer full f) best b) in (
      o.0,
      forced,
      λ full f.
          let d = w.2 full (fewer full f) in
          subst (λ (y : List ℕ). IsDecided (entries_of at full) y row) (sym front.1) (d.0, decided_left (entries_of at full) w.0 front.0 row d.0 d.1),
    )
