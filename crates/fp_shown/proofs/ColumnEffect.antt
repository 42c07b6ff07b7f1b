-- The column search on two fillings that agree on the rows that the forced columns leave.
use Rattle.std.proofs.Common.{◌≡◌, ◌<◌, ℕ, List, ◌++◌, get_or, arith, inl, inr, sym, ◌∙◌, subst, Option}
use Rattle.std.proofs.lemmas.Bool.{cases_lt}
use Rattle.fp_order.specs.declared.entry.Entry.{Entry}
use Rattle.fp_order.specs.declared.entry.Entry.TheVariants.{Unknown}
use Rattle.fp_order.specs.Orders.{IsDecidedAt, IsKept, IsPartial, IsOver, IsChoice, IsBest}
use Rattle.fp_order.proofs.Cons.{less≢leq}
use Rattle.fp_order.proofs.Laws.{decided_left, kept_undecided}
use Rattle.fp_order.proofs.Exists.{IsRows, rows_below}
use Rattle.fp_shown.specs.Fillings.{entries_of, IsFilling}
use Rattle.fp_shown.specs.Known.{known_at}
use Rattle.fp_shown.proofs.Forces.{Forces, After, Agrees, forced_split, forced_join, decided_at_one, left_kept, after_rows}
use Rattle.fp_shown.proofs.Longest.{fills_agrees}

-- two matrices with the same entries on the row
abbrev pub SameOn : ℕ → (ℕ → ℕ → Entry) → (ℕ → ℕ → Entry) → ℕ → Type 0
SameOn n e a r = (c : ℕ) → c < n → e c r ≡ a c r

pub decided_same : (n : ℕ) (e a : ℕ → ℕ → Entry) (o : List ℕ) (r i : ℕ) → IsOver n o → SameOn n e a r → IsDecidedAt e o r i → IsDecidedAt a o r i
decided_same n e a o r i over s d = record {
  inside = d.inside;
  less = sym (s _ (over i d.inside)) ∙ d.less;
  before = λ j h. sym (s _ (over j (omega (arith, h, d.inside)))) ∙ d.before j h;
}

pub kept_same : (n : ℕ) (e a : ℕ → ℕ → Entry) (o : List ℕ) (r : ℕ) → IsOver n o → SameOn n e a r → IsKept e o r → IsKept a o r
kept_same n e a o r over s k j h = sym (s _ (over j h)) ∙ k j h

same_sym : (n : ℕ) (e a : ℕ → ℕ → Entry) (r : ℕ) → SameOn n e a r → SameOn n a e r
same_sym n e a r s c l = sym (s c l)

partial_same : (n : ℕ) (e a : ℕ → ℕ → Entry) (R : ℕ → Type 0) → ((r : ℕ) → R r → SameOn n e a r) → (o : List ℕ) → IsOver n o → IsPartial e R o → IsPartial a R o
partial_same n e a R s o over p r h = elim (p r h) [ inl d ↦ inl (d.0, decided_same n e a o r d.0 over (s r h) d.1) | inr k ↦ inr (kept_same n e a o r over (s r h) k) ]

choice_same : (e a : ℕ → ℕ → Entry) (n : ℕ) (R : ℕ → Type 0) → ((r : ℕ) → R r → SameOn n e a r) → ((r : ℕ) → R r → SameOn n a e r) → (o : List ℕ) → IsChoice e n R o → IsChoice a n R o
choice_same e a n R s t o h = record {
  over = h.over;
  partial = partial_same n e a R s o h.over h.partial;
  irredundant = λ i k. let w = h.irredundant i k in (w.0, w.1, decided_same n e a o w.0 i h.over (s w.0 w.1) w.2);
  most = λ other over p r k d.
      let w = h.most other over (partial_same n a e R t other over p) r k (d.0, decided_same n a e other r d.0 over (t r k) d.1) in
      (w.0, decided_same n e a o r w.0 h.over (s r k) w.1);
}

-- the best order depends on the entries on the rows alone
pub best_same : (e a : ℕ → ℕ → Entry) (n : ℕ) (R : ℕ → Type 0) → ((r : ℕ) → R r → SameOn n e a r) → (o : List ℕ) → IsBest e n R o → IsBest a n R o
best_same e a n R s o b =
    let t : (r : ℕ) → R r → SameOn n a e r = λ r h. same_sym n e a r (s r h) in
    record { choice = choice_same e a n R s t o b.choice; least = λ other h. b.least other (choice_same a e n R t s other h) }

-- a row is decided at one position
decided_once : (e : ℕ → ℕ → Entry) (o : List ℕ) (r i j : ℕ) → IsDecidedAt e o r i → IsDecidedAt e o r j → i ≡ j
decided_once e o r i j d f = elim (cases_lt i j) [
  | inl l ↦ absurd (less≢leq _ (f.before i l) d.less)
  | inr l ↦ elim (cases_lt j i) [ inl k ↦ absurd (less≢leq _ (d.before j k) f.less) | inr k ↦ omega arith ]
]

-- the column search has one order on both, the same deciding positions, and the same cells on the rows left
pub record SameColumns (at : ℕ → ℕ → ℕ) (row_of : ℕ → ℕ) (count rows : ℕ) (full other : List Entry) : Type 0 where
  pub order : (best : List ℕ) → IsBest (entries_of at full) count (λ r. r < rows) best → IsBest (entries_of at other) count (λ r. r < rows) best
  pub decided : (best : List ℕ) → IsBest (entries_of at full) count (λ r. r < rows) best → (row i : ℕ) → row < rows →
      IsDecidedAt (entries_of at full) best row i → IsDecidedAt (entries_of at other) best row i
  pub left : (best : List ℕ) → IsBest (entries_of at full) count (λ r. r < rows) best → (row : ℕ) → row < rows →
      IsKept (entries_of at full) best row → (k : ℕ) → row_of k ≡ row → get_or full k Unknown ≡ get_or other k Unknown

-- two fillings that agree on the rows that the forced columns leave
pub same_columns : (at : ℕ → ℕ → ℕ) (row_of : ℕ → ℕ) (n rows : ℕ) (known : List (Option Entry)) → ((c r : ℕ) → c < n → r < rows → row_of (at c r) ≡ r) →
    (o : List ℕ) → Forces (known_at at known) n o (λ r. r < rows) → (full other : List Entry) → IsFilling known full → IsFilling known other →
    ((k : ℕ) → After (known_at at known) o (λ r. r < rows) (row_of k) → get_or full k Unknown ≡ get_or other k Unknown) → SameColumns at row_of n rows full other
same_columns at row_of n rows known place o forces full other fills others same = record { order = order; decided = decided; left = left } where
  e_agrees : Agrees (known_at at known) (entries_of at full)
  e_agrees = fills_agrees at known full fills

  a_agrees : Agrees (known_at at known) (entries_of at other)
  a_agrees = fills_agrees at known other others

  rows_left : IsRows (After (known_at at known) o (λ r. r < rows))
  rows_left = after_rows (known_at at known) o (λ r. r < rows) (rows_below rows)

  on_left : (r : ℕ) → After (known_at at known) o (λ r. r < rows) r → SameOn n (entries_of at full) (entries_of at other) r
  on_left r h c l =
      let q = place c r l (left_kept (known_at at known) n o (λ r. r < rows) forces r h).0 in
      same (at c r) (subst (After (known_at at known) o (λ r. r < rows)) (sym q) h)

  split : (best : List ℕ) → IsBest (entries_of at full) n (λ r. r < rows) best → (t : List ℕ) × (best ≡ o ++ t) × IsBest (entries_of at full) n (After (known_at at known) o (λ r. r < rows)) t
  split best b = forced_split (known_at at known) (entries_of at full) n e_agrees o (λ r. r < rows) (rows_below rows) forces best b

  order : (best : List ℕ) → IsBest (entries_of at full) n (λ r. r < rows) best → IsBest (entries_of at other) n (λ r. r < rows) best
  order best b =
      let s = split best b in
      let t = best_same (entries_of at full) (entries_of at other) n (After (known_at at known) o (λ r. r < rows)) on_left s.0 s.2 in
      let P : List ℕ → Type 0 = λ x. IsBest (entries_of at other) n (λ r. r < rows) x in
      subst P (sym s.1) (forced_join (known_at at known) (entries_of at other) n a_agrees o (λ r. r < rows) forces s.0 t)

  gone_at : (row : ℕ) → row < rows → (After (known_at at known) o (λ r. r < rows) row → ⊥) → (best : List ℕ) → IsBest (entries_of at full) n (λ r. r < rows) best →
      (i : ℕ) × IsDecidedAt (entries_of at full) best row i × IsDecidedAt (entries_of at other) best row i
  gone_at row l gone best b =
      let s = split best b in
      let p = decided_at_one (known_at at known) n o (λ r. r < rows) forces row l gone in
      let P : List ℕ → Type 0 = λ x. IsDecidedAt (entries_of at full) x row p.0 in
      let Q : List ℕ → Type 0 = λ x. IsDecidedAt (entries_of at other) x row p.0 in (
        p.0,
        subst P (sym s.1) (decided_left (entries_of at full) o s.0 row p.0 (p.1 (entries_of at full) e_agrees)),
        subst Q (sym s.1) (decided_left (entries_of at other) o s.0 row p.0 (p.1 (entries_of at other) a_agrees)),
      )

  decided : (best : List ℕ) → IsBest (entries_of at full) n (λ r. r < rows) best → (row i : ℕ) → row < rows → IsDecidedAt (entries_of at full) best row i → IsDecidedAt (entries_of at other) best row i
  decided best b row i l d = elim (rows_left.test row) [
    | inl h ↦ decided_same n (entries_of at full) (entries_of at other) best row i b.choice.over (on_left row h) d
    | inr gone ↦
        let g = gone_at row l gone best b in
        let P : ℕ → Type 0 = λ x. IsDecidedAt (entries_of at other) best row x in
        subst P (sym (decided_once (entries_of at full) best row i g.0 d g.1)) g.2
  ]

  left : (best : List ℕ) → IsBest (entries_of at full) n (λ r. r < rows) best → (row : ℕ) → row < rows →
      IsKept (entries_of at full) best row → (k : ℕ) → row_of k ≡ row → get_or full k Unknown ≡ get_or other k Unknown
  left best b row l kept k s = elim (rows_left.test row) [
    | inl h ↦ same k (subst (After (known_at at known) o (λ r. r < rows)) (sym s) h)
    | inr gone ↦ let g = gone_at row l gone best b in absurd (kept_undecided (entries_of at full) best row kept (g.0, g.1))
  ]
