-- The numbers of cells among cells that are added one after another.
use Rattle.std.proofs.Common.{◌≡◌, ◌<◌, ℕ, zero, suc, List, [], ◌∷◌, ◌++◌, length, get_or, refl, arith, inl, inr, sym, ◌∙◌, ap, subst, Bool, true, false, Option, Some, None, append_assoc, append-nil, if◌then◌else◌}
use Rattle.std.proofs.lemmas.Bool.{cases_lt}
use Rattle.std.specs.List.{flat_map}
use Rattle.std.specs.Option.{option_map}
use Rattle.fp_order.specs.declared.grid.Cell.{Cell}
use Rattle.fp_order.specs.Grid.{below, same_cell, number_in, added, all_added}

pub same_itself : (x : Cell) → same_cell x x ≡ true
same_itself x = grind arith

pub same_equal : (x y : Cell) → same_cell x y ≡ true → x ≡ y
same_equal x y h = grind arith

-- a number found stays when more cells come behind
stays_behind : (b : Bool) (o p : Option ℕ) (k : ℕ) → ((i : ℕ) → o ≡ Some i → p ≡ Some i) →
    (if b then Some 0 else option_map suc o) ≡ Some k → (if b then Some 0 else option_map suc p) ≡ Some k
stays_behind true o p k f h = h
stays_behind false None p k f h = cc
stays_behind false (Some i) p k f h = ap (option_map suc) (f i refl) ∙ h

pub number_stays : (cells more : List Cell) (x : Cell) (k : ℕ) → number_in cells x ≡ Some k → number_in (cells ++ more) x ≡ Some k
number_stays [] more x k h = cc
number_stays (y ∷ cells) more x k h = stays_behind (same_cell y x) (number_in cells x) (number_in (cells ++ more) x) k (λ i s. number_stays cells more x i s) h

-- the number of a cell after it was put at the end
last_behind : (b : Bool) (o p : Option ℕ) (n : ℕ) → (o ≡ None → p ≡ Some n) →
    (if b then Some 0 else option_map suc o) ≡ None → (if b then Some 0 else option_map suc p) ≡ Some (suc n)
last_behind true o p n f h = cc
last_behind false None p n f h = ap (option_map suc) (f refl)
last_behind false (Some i) p n f h = cc

pub number_last : (cells : List Cell) (x : Cell) → number_in cells x ≡ None → number_in (cells ++ x ∷ []) x ≡ Some (length cells)
number_last [] x h = rw (same_itself x) refl
number_last (y ∷ cells) x h = last_behind (same_cell y x) (number_in cells x) (number_in (cells ++ x ∷ []) x) (length cells) (λ s. number_last cells x s) h

pub number_other : (cells : List Cell) (x y : Cell) → (x ≡ y → ⊥) → number_in (cells ++ x ∷ []) y ≡ number_in cells y
number_other [] x y h = by_test (same_cell x y) refl where
  by_test : (b : Bool) → same_cell x y ≡ b → (if b then Some 0 else option_map suc None) ≡ None
  by_test true s = absurd (h (same_equal x y s))
  by_test false s = refl
number_other (z ∷ cells) x y h = behind (same_cell z y) (number_other cells x y h) where
  behind : {o p : Option ℕ} (b : Bool) → o ≡ p → (if b then Some 0 else option_map suc o) ≡ (if b then Some 0 else option_map suc p)
  behind b s = cc

-- a number is that of an equal cell
at_behind : (cells : List Cell) (y x : Cell) (b : Bool) (o : Option ℕ) (k : ℕ) → (b ≡ true → y ≡ x) →
    ((i : ℕ) → o ≡ Some i → (i < length cells) × ((d : Cell) → get_or cells i d ≡ x)) →
    (if b then Some 0 else option_map suc o) ≡ Some k → (k < suc (length cells)) × ((d : Cell) → get_or (y ∷ cells) k d ≡ x)
at_behind cells y x true o zero s f h = (omega arith, λ d. s refl)
at_behind cells y x true o (suc k) s f h = cc
at_behind cells y x false None k s f h = cc
at_behind cells y x false (Some i) zero s f h = cc
at_behind cells y x false (Some i) (suc k) s f h = let e : i ≡ k = cc in let t = f k (ap (λ (j : ℕ). Some j) e) in (omega (arith, t.0), λ d. t.1 d)

pub number_at : (cells : List Cell) (x : Cell) (k : ℕ) → number_in cells x ≡ Some k → (k < length cells) × ((d : Cell) → get_or cells k d ≡ x)
number_at [] x k h = cc
number_at (y ∷ cells) x k h = at_behind cells y x (same_cell y x) (number_in cells x) k (same_equal y x) (λ i s. number_at cells x i s) h

-- a cell is among these
abbrev pub HasNumber : List Cell → Cell → Type 0
HasNumber cells x = (k : ℕ) × (number_in cells x ≡ Some k)

pub all_added_append : (cells more others : List Cell) → all_added cells (more ++ others) ≡ all_added (all_added cells more) others
all_added_append cells [] others = refl
all_added_append cells (x ∷ more) others = all_added_append (added cells x (number_in cells x)) more others

pub added_stays : (cells : List Cell) (y x : Cell) (o : Option ℕ) → HasNumber cells x → HasNumber (added cells y o) x
added_stays cells y x None t = (t.0, number_stays cells (y ∷ []) x t.0 t.1)
added_stays cells y x (Some k) t = t

pub all_added_stays : (cells more : List Cell) (x : Cell) → HasNumber cells x → HasNumber (all_added cells more) x
all_added_stays cells [] x t = t
all_added_stays cells (y ∷ more) x t = all_added_stays (added cells y (number_in cells y)) more x (added_stays cells y x (number_in cells y) t)

-- the lists of the numbers below `n`, one after another, with one number more
pub below_more : {A : Type 0} (f : ℕ → List A) (n : ℕ) → flat_map f (below (suc n)) ≡ flat_map f (below n) ++ f n
below_more f n = flat_more f (below n) n where
  flat_more : {A : Type 0} (f : ℕ → List A) (xs : List ℕ) (n : ℕ) → flat_map f (xs ++ n ∷ []) ≡ flat_map f xs ++ f n
  flat_more f [] n = append-nil (f n)
  flat_more f (x ∷ xs) n = ap (λ (t : List _). f x ++ t) (flat_more f xs n) ∙ sym (append_assoc (f x) (flat_map f xs) (f n))

-- a cell among those of one number is added with all of them
pub flat_added : (f : ℕ → List Cell) (x : Cell) (r n : ℕ) → r < n → ((cells : List Cell) → HasNumber (all_added cells (f r)) x) →
    (cells : List Cell) → HasNumber (all_added cells (flat_map f (below n))) x
flat_added f x r zero l one cells = absurd (omega arith)
flat_added f x r (suc n) l one cells =
    let e = ap (all_added cells) (below_more f n) ∙ all_added_append cells (flat_map f (below n)) (f n) in
    subst (λ (t : List Cell). HasNumber t x) (sym e) (elim (cases_lt r n) [
      | inl m ↦ all_added_stays (all_added cells (flat_map f (below n))) (f n) x (flat_added f x r n m one cells)
      | inr m ↦ let s : r ≡ n = omega arith in
          subst (λ (q : ℕ). HasNumber (all_added (all_added cells (flat_map f (below n))) (f q)) x) s (one (all_added cells (flat_map f (below n))))
    ])

-- a cell has a number once it is added
pub added_itself : (cells : List Cell) (x : Cell) → HasNumber (added cells x (number_in cells x)) x
added_itself cells x = by_number (number_in cells x) refl where
  by_number : (o : Option ℕ) → number_in cells x ≡ o → HasNumber (added cells x o) x
  by_number None s = (length cells, number_last cells x s)
  by_number (Some k) s = (k, s)
