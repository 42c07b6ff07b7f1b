-- What each kind of step tells: of the step, the seat before, the number found and the seat after.
use Rattle.std.specs.Prelude.{◌≡◌, ◌≢◌, ℕ, ◌+◌, ◌<◌, ◌≤◌, ◌==◌, List, [], ◌∷◌, Bool, true, false, cond, ◌||◌, ◌⊎◌, Option, Some, None, slice_set}
use Rattle.atomic_table.specs.Table.{Me, Step}
use Rattle.fp_order.specs.declared.entry.Entry.{Entry}
use Rattle.fp_board_rule.specs.declared.view.View.{View}
use Rattle.fp_board_rule.specs.Words.{code, entry_of, word_at, known_in, noted_in}

abbrev pub Sat : Type 0
Sat = Me ℕ View

abbrev pub Told : Type 1
Told = Step ℕ → Sat → ℕ → Sat → Type 0

abbrev pub knowing : List (Option Entry) → ℕ → Option Entry → List (Option Entry)
knowing known k None = known
knowing known k (Some e) = slice_set known k (Some e)

abbrev pub noting : List Bool → ℕ → Bool → List Bool
noting noted k true = slice_set noted k true
noting noted k false = noted

-- the view that has taken in the word x of k: a settled entry is known, a cancelled cell noted
abbrev pub learned : View → ℕ → ℕ → View
learned v k x = record v { known = knowing v.known k (entry_of x); noted = noting v.noted k (x == 1) }

abbrev pub claiming : View → ℕ → View
claiming v k = record v { claim = Some k; looks = 0 }

abbrev pub idle : View → View
idle v = record v { claim = None }

-- the looks at the claimed cell after one at k
abbrev pub looks_after : Option ℕ → ℕ → ℕ → ℕ
looks_after None k n = n
looks_after (Some j) k n = cond (j == k) (n + 1) n

-- what was known and noted still is
pub record Grows (v w : View) : Type 0 where
  pub knows : (k : ℕ) (e : Entry) → known_in v.known k ≡ Some e → known_in w.known k ≡ Some e
  pub notes : (k : ℕ) → noted_in v.noted k ≡ true → noted_in w.noted k ≡ true

-- the first seat, where no number is out
abbrev pub IsAlone : View → Type 0
IsAlone v = (v.number ≡ 1) × ((m : ℕ) → noted_in v.out m ≡ false)

-- the seat itself has what the word x of k says
pub record Accounts (v : View) (k x : ℕ) : Type 0 where
  pub settled : (e : Entry) → x ≡ code e → known_in v.known k ≡ Some e
  pub cancelled : x ≡ 1 → noted_in v.noted k ≡ true
  pub claimed : 8 < x → v.claim ≡ Some k

-- the word x that is found at k agrees with what the seat has, and a seat that is alone accounts for it
pub record Finds (v : View) (k x : ℕ) : Type 0 where
  pub word : (x < 5) ⊎ ((8 < x) × (x ≤ 24))
  pub known : (e : Entry) → known_in v.known k ≡ Some e → x ≡ code e
  pub noted : noted_in v.noted k ≡ true → x ≡ 1
  pub claim : v.claim ≡ Some k → (x ≡ 8 + v.number) ⊎ (x ≡ 1)
  pub own : x ≡ 8 + v.number → v.claim ≡ Some k
  pub alone : IsAlone v → Accounts v k x

abbrev pub loaded : Told
loaded st m r n = (n ≡ (learned m.0 st.word r, m.1)) × Finds m.0 st.word r × Grows m.0 n.0

abbrev pub looked : Told
looked st m r n = (n ≡ (record (learned m.0 st.word r) { looks = looks_after m.0.claim st.word m.0.looks }, m.1)) × Finds m.0 st.word r × Grows m.0 n.0

abbrev pub last_loaded : Told
last_loaded st m r n = (n ≡ (record (learned m.0 st.word r) { refreshes = m.0.refreshes + 1 }, m.1)) × Finds m.0 st.word r × Grows m.0 n.0

abbrev pub claimed : Told
claimed st m r n = (r ≡ 0 → n ≡ (claiming m.0 st.word, m.1)) × (r ≢ 0 → n ≡ m) × Finds m.0 st.word r

abbrev pub settled : Told
settled st m r n = (r ≡ st.first → n ≡ (idle (learned m.0 st.word st.second), m.1)) × (r ≢ st.first → (r ≡ 1) × (n ≡ (idle m.0, m.1))) × Finds m.0 st.word r × Grows m.0 n.0

abbrev pub cancelled : Told
cancelled st m r n = (r ≡ st.first → n ≡ (learned m.0 st.word 1, m.1)) × (r ≢ st.first → n ≡ m) × Finds m.0 st.word r × Grows m.0 n.0

abbrev pub quitted : Told
quitted st m r n = (n ≡ (idle m.0, m.1)) × (r ≢ st.first → r ≡ 1) × Finds m.0 st.word r

-- the first seat once it has given out the next number, and the new seat
abbrev pub left_part : View → View
left_part v = record v { given = v.given + 1; out = slice_set v.out (v.given + 1) true }

abbrev pub right_part : View → View
right_part v = record v { number = v.given + 1; claim = None; looks = 0; refreshes = 0; given = 0; out = [] }

-- the view of a seat that was taken in
abbrev pub nobody : View
nobody = record { number = 0; known = []; noted = []; claim = None; looks = 0; refreshes = 0; given = 0; out = [] }

-- the elements of two lists put together, and the rest of the first
abbrev pub both : {A : Type 0} → (A → A → A) → List A → List A → List A
both f [] ys = []
both f (x ∷ xs) [] = x ∷ xs
both f (x ∷ xs) (y ∷ ys) = f x y ∷ both f xs ys

abbrev pub or_known : Option Entry → Option Entry → Option Entry
or_known None y = y
or_known (Some e) y = Some e

abbrev pub known_both : List (Option Entry) → List (Option Entry) → List (Option Entry)
known_both xs ys = both or_known xs ys

abbrev pub noted_both : List Bool → List Bool → List Bool
noted_both xs ys = both (λ a b. a || b) xs ys

-- the first seat once it has taken in another
abbrev pub taken_in : View → View → View
taken_in v w = record v { known = known_both v.known w.known; noted = noted_both v.noted w.noted; out = slice_set v.out w.number false }

-- the same seat, with the same claim
pub record SameRank (v w : View) : Type 0 where
  pub number : w.number ≡ v.number
  pub claim : w.claim ≡ v.claim
  pub given : w.given ≡ v.given
  pub out : w.out ≡ v.out

-- the seat knows what the word x of k says
pub record Sees (v : View) (k x : ℕ) : Type 0 where
  pub knows : (e : Entry) → entry_of x ≡ Some e → known_in v.known k ≡ Some e
  pub notes : x ≡ 1 → noted_in v.noted k ≡ true

-- the seat with the view v and these words has loaded the word of k
pub record IsLoaded (v : View) (k : ℕ) (words : List ℕ) (w : View) (loaded_words : List ℕ) : Type 0 where
  pub rank : SameRank v w
  pub grows : Grows v w
  pub sees : Sees w k (word_at loaded_words k)
  pub finds : Finds w k (word_at loaded_words k)
  pub others : (j : ℕ) → j ≢ k → word_at loaded_words j ≡ word_at words j
  pub still : (j x : ℕ) → j ≢ k → Finds v j x → Finds w j x
  pub alone : IsAlone v → (w.known ≡ v.known) × (w.noted ≡ v.noted)

-- a seat with the view v has loaded the words of the first n cells; one that is alone learns nothing
pub record IsRefreshed (v w : View) (words : List ℕ) (n : ℕ) : Type 0 where
  pub rank : SameRank v w
  pub grows : Grows v w
  pub sees : (k : ℕ) → k < n → Sees w k (word_at words k)
  pub finds : (k : ℕ) → k < n → Finds w k (word_at words k)
  pub alone : IsAlone v → (w.known ≡ v.known) × (w.noted ≡ v.noted)

-- the cell is known, or noted as cancelled
abbrev pub IsDone : View → ℕ → Type 0
IsDone v k = ((e : Entry) × (known_in v.known k ≡ Some e)) ⊎ (noted_in v.noted k ≡ true)
