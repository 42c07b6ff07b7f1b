-- The steps of completion.
use Rattle.std.proofs.Common.{◌≡◌, ◌≤◌, ◌<◌, ◌+◌, ℕ, List, [], ◌∷◌, ◌++◌, refl, get_or, drop, take, arith, ◌-◌, subst, sym, ◌∙◌, ap}
use Rattle.std.specs.Prelude.{Some, None, Result, Ok, Err, length}
use Rattle.std.specs.List.{slice_get}
use Rattle.fp_term.specs.Terms.{Tm}
use Rattle.fp_term.specs.declared.signature.Signature.{Signature}
use Rattle.fp_group.specs.declared.constructors.ConTable.{ConTable}
use Rattle.fp_group.specs.declared.clause.Clause.{Clause}
use Rattle.fp_group.specs.declared.clause.Head.{Head}
use Rattle.fp_pattern.specs.declared.faults.PatternFault.{PatternFault}
use Rattle.fp_pattern.specs.declared.faults.PatternFault.TheVariants.{NotPattern, NonLinear, Redundant, TooMany, NoMemory}
use Rattle.fp_pattern.specs.Subtraction.{IsLeft, whole, less}
use Rattle.fp_pattern.specs.Completed.{patterns_of, written, undefined_clause, IsLeftWithin, all_taken, one_taken_off, Passes, IsSomeLeft, some_left, IsPassing, WrittenLeft, MissingLeft, JoinAnswer, Completes, all_completed, redundant, passing, too_many, one_completed, AddsMissing, all_added, passing_missing, too_many_missing, one_added, IsCompletion, malformed, refused, added, form_fault, Answers}
use Rattle.std.proofs.lemmas.List.{drop_all, take_all, take_more, length-take-le}
use Rattle.fp_pattern.proofs.Splits.{drop_here}

pub within_left : (table : ConTable) (sig : Signature) (f : List ℕ) (qs : List (List Tm)) (cs left : List Clause) → IsLeftWithin table sig f qs cs left → IsLeft table sig f qs cs left
within_left table sig f _ _ _ (all_taken cs) = whole cs
within_left table sig f _ _ _ (one_taken_off q qs cs ds left minus le more) = less q qs cs ds left minus (within_left table sig f qs ds left more)

module _ (table : ConTable) (sig : Signature) (f : List ℕ) (qs : List (List Tm)) (c : Clause) where
  pub passing_some : (n : ℕ) (left : List Clause) → IsLeft table sig f qs (c ∷ []) left → 0 < length left → (n ≡ n) × IsSomeLeft table sig f qs (c ∷ [])
  passing_some n [] h lt = let no : ⊥ = omega arith in absurd no
  passing_some n (d ∷ left) h lt = (refl, some_left d left h)

  pub passing_none : (n : ℕ) (left : List Clause) → IsLeft table sig f qs (c ∷ []) left → length left ≡ 0 → (n ≡ n) × IsLeft table sig f qs (c ∷ []) []
  passing_none n [] h lt = (refl, h)
  passing_none n (d ∷ left) h lt = let no : ⊥ = omega arith in absurd no

  pub empty_passing : (n : ℕ) (left : List Clause) → IsLeftWithin table sig f qs (c ∷ []) left → length left ≡ 0 → (n ≡ n) × IsLeft table sig f qs (c ∷ []) []
  empty_passing n left h e = passing_none n left (within_left table sig f qs (c ∷ []) left h) e

  pub passing_fault : (n : ℕ) (fault : PatternFault) → Passes table sig f qs (c ∷ []) → IsPassing table sig f qs c n fault → WrittenLeft table sig f qs c n (Err fault)
  passing_fault n (NotPattern i j) p h = h
  passing_fault n (NonLinear i name) p h = h
  passing_fault n (Redundant i) p h = h
  passing_fault n (TooMany i) p h = (h.0, (p, h.1))
  passing_fault n NoMemory p h = tt

pub map_answers : (P Q : Result (List Clause) PatternFault → Type 0) → ((r : Result (List Clause) PatternFault) → P r → Q r) → (r : Result (List Clause) PatternFault) → Answers P r → Answers Q r
map_answers P Q f (Ok out) h = f (Ok out) h
map_answers P Q f (Err NoMemory) h = tt
map_answers P Q f (Err (NotPattern i j)) h = f (Err (NotPattern i j)) h
map_answers P Q f (Err (NonLinear i name)) h = f (Err (NonLinear i name)) h
map_answers P Q f (Err (Redundant i)) h = f (Err (Redundant i)) h
map_answers P Q f (Err (TooMany i)) h = f (Err (TooMany i)) h

-- one written clause
module _ (table : ConTable) (sig : Signature) (heads : List Head) (before : List Clause) (c : Clause) (rest out : List Clause) (head : Head) (n : ℕ) (found : slice_get heads c.function ≡ Some head) (number : n ≡ length before + 1) where
  abbrev pub OfClause : Result (List Clause) PatternFault → Type 0
  OfClause r = WrittenLeft table sig head.name (patterns_of c.function before) (written n c) n r

  pub left_fault : (fault : PatternFault) → OfClause (Err fault) → Answers (Completes table sig heads before (c ∷ rest) out) (Err fault)
  left_fault (Redundant i) h = rw h.0 (redundant before c rest out head n found number h.1)
  left_fault (TooMany i) h = rw h.0 (passing before c rest out head n found number h.1.0 h.1.1)
  left_fault (NotPattern i j) h = absurd h
  left_fault (NonLinear i name) h = absurd h
  left_fault NoMemory h = tt

  pub join_fault : (left : List Clause) (fault : PatternFault) → OfClause (Ok left) → JoinAnswer out left n (Err fault) → Answers (Completes table sig heads before (c ∷ rest) out) (Err fault)
  join_fault [] fault h k = let no : ⊥ = omega (arith, h.1) in absurd no
  join_fault (d ∷ left) (TooMany i) h k = rw k.0 (too_many before c rest out head n d left found number h.0 k.1)
  join_fault (d ∷ left) (Redundant i) h k = absurd k
  join_fault (d ∷ left) (NotPattern i j) h k = absurd k
  join_fault (d ∷ left) (NonLinear i name) h k = absurd k
  join_fault (d ∷ left) NoMemory h k = tt

  pub go_on :
      (left joined : List Clause) (r : Result (List Clause) PatternFault) → OfClause (Ok left) → JoinAnswer out left n (Ok joined) →
      Answers (Completes table sig heads (before ++ c ∷ []) rest joined) r → Answers (Completes table sig heads before (c ∷ rest) out) r
  go_on [] joined r h k a = let no : ⊥ = omega (arith, h.1) in absurd no
  go_on (d ∷ left) joined r h k a =
      map_answers _ _ (λ answer step. one_completed before c rest out head n d left answer found number h.0 k.1 step) r (rw k.0 at a)

-- one function's missing clauses
module _ (table : ConTable) (sig : Signature) (clauses : List Clause) (k : ℕ) (head : Head) (heads : List Head) (out : List Clause) where
  abbrev pub OfHead : Result (List Clause) PatternFault → Type 0
  OfHead r = MissingLeft table sig head.name (patterns_of k clauses) (undefined_clause k head) (length clauses) r

  pub missing_fault : (fault : PatternFault) → OfHead (Err fault) → Answers (AddsMissing table sig clauses k (head ∷ heads) out) (Err fault)
  missing_fault (TooMany i) h = rw h.0 (passing_missing k head heads out h.1)
  missing_fault (Redundant i) h = absurd h
  missing_fault (NotPattern i j) h = absurd h
  missing_fault (NonLinear i name) h = absurd h
  missing_fault NoMemory h = tt

  pub join_missing_fault : (left : List Clause) (fault : PatternFault) → OfHead (Ok left) → JoinAnswer out left (length clauses) (Err fault) → Answers (AddsMissing table sig clauses k (head ∷ heads) out) (Err fault)
  join_missing_fault left (TooMany i) h a = rw a.0 (too_many_missing k head heads out left h a.1)
  join_missing_fault left (Redundant i) h a = absurd a
  join_missing_fault left (NotPattern i j) h a = absurd a
  join_missing_fault left (NonLinear i name) h a = absurd a
  join_missing_fault left NoMemory h a = tt

  pub go_on_missing :
      (left joined : List Clause) (r : Result (List Clause) PatternFault) → OfHead (Ok left) → JoinAnswer out left (length clauses) (Ok joined) →
      Answers (AddsMissing table sig clauses (k + 1) heads joined) r → Answers (AddsMissing table sig clauses k (head ∷ heads) out) r
  go_on_missing left joined r h a next = map_answers _ _ (λ answer step. one_added k head heads out left answer h a.1 step) r (rw a.0 at next)

take_one_more : (xs : List Clause) (i : ℕ) (x : Clause) → i < length xs → x ≡ get_or xs i x → take (i + 1) xs ≡ take i xs ++ x ∷ []
take_one_more xs i x lt e = take_more xs i x lt ∙ ap (λ (y : Clause). take i xs ++ y ∷ []) (sym e)

-- the written clause at a place of the list
module _ (table : ConTable) (sig : Signature) (heads : List Head) (all : List Clause) (at : ℕ) (c : Clause) (out : List Clause) (head : Head) (n : ℕ) (lt : at < length all) (is : c ≡ get_or all at c) (found : slice_get heads c.function ≡ Some head) (number : n ≡ at + 1) where
  from_here : drop at all ≡ c ∷ drop (at + 1) all
  from_here = drop_here all at c lt is

  here : (r : Result (List Clause) PatternFault) → Answers (Completes table sig heads (take at all) (c ∷ drop (at + 1) all) out) r → Answers (Completes table sig heads (take at all) (drop at all) out) r
  here r h = subst (λ (z : List Clause). Answers (Completes table sig heads (take at all) z out) r) (sym from_here) h

  counted : n ≡ length (take at all) + 1
  counted = let e : length (take at all) ≡ at = length-take-le at all (omega arith) in omega arith

  pub fault_at : (fault : PatternFault) → WrittenLeft table sig head.name (patterns_of c.function (take at all)) (written n c) n (Err fault) → Answers (Completes table sig heads (take at all) (drop at all) out) (Err fault)
  fault_at fault h = here (Err fault) (left_fault table sig heads (take at all) c (drop (at + 1) all) out head n found counted fault h)

  pub join_fault_at :
      (left : List Clause) (fault : PatternFault) → WrittenLeft table sig head.name (patterns_of c.function (take at all)) (written n c) n (Ok left) → JoinAnswer out left n (Err fault) →
      Answers (Completes table sig heads (take at all) (drop at all) out) (Err fault)
  join_fault_at left fault h k = here (Err fault) (join_fault table sig heads (take at all) c (drop (at + 1) all) out head n found counted left fault h k)

  pub go_on_at :
      (left joined : List Clause) (r : Result (List Clause) PatternFault) → WrittenLeft table sig head.name (patterns_of c.function (take at all)) (written n c) n (Ok left) → JoinAnswer out left n (Ok joined) →
      Answers (Completes table sig heads (take (at + 1) all) (drop (at + 1) all) joined) r → Answers (Completes table sig heads (take at all) (drop at all) out) r
  go_on_at left joined r h k a =
      let more : take (at + 1) all ≡ take at all ++ c ∷ [] = take_one_more all at c lt is in
      here r (go_on table sig heads (take at all) c (drop (at + 1) all) out head n found counted left joined r h k (subst (λ (z : List Clause). Answers (Completes table sig heads z (drop (at + 1) all) joined) r) more a))

pub end_at : (table : ConTable) (sig : Signature) (heads : List Head) (all : List Clause) (at : ℕ) (out : List Clause) → at ≡ length all → Completes table sig heads (take at all) (drop at all) out (Ok out)
end_at table sig heads all at out e = rw (drop_all at all (omega arith)) (all_completed (take at all) out)

-- the first function of a list
module _ (table : ConTable) (sig : Signature) (clauses : List Clause) (k : ℕ) (out : List Clause) where
  pub end_missing : (hs : List Head) → length hs < 1 → AddsMissing table sig clauses k hs out (Ok out)
  end_missing [] h = all_added k out
  end_missing (x ∷ hs) h = let no : ⊥ = omega arith in absurd no

  first : {head x : Head} (hs : List Head) → head ≡ x → (r : Result (List Clause) PatternFault) → Answers (AddsMissing table sig clauses k (head ∷ hs) out) r → Answers (AddsMissing table sig clauses k (x ∷ hs) out) r
  first hs e r h = subst (λ (z : Head). Answers (AddsMissing table sig clauses k (z ∷ hs) out) r) e h

  pub first_missing_fault :
      (hs : List Head) (head : Head) (n : ℕ) (fault : PatternFault) → 1 ≤ length hs → head ≡ get_or hs 0 head → n ≡ length clauses →
      MissingLeft table sig head.name (patterns_of k clauses) (undefined_clause k head) n (Err fault) → Answers (AddsMissing table sig clauses k hs out) (Err fault)
  first_missing_fault [] head n fault le e num h = let no : ⊥ = omega arith in absurd no
  first_missing_fault (x ∷ hs) head n fault le e num h =
      let g : MissingLeft table sig head.name (patterns_of k clauses) (undefined_clause k head) (length clauses) (Err fault) = subst (λ (z : ℕ). MissingLeft table sig head.name (patterns_of k clauses) (undefined_clause k head) z (Err fault)) num h in
      first hs e (Err fault) (missing_fault table sig clauses k head hs out fault g)

  pub first_join_fault :
      (hs : List Head) (head : Head) (n : ℕ) (left : List Clause) (fault : PatternFault) → 1 ≤ length hs → head ≡ get_or hs 0 head → n ≡ length clauses →
      MissingLeft table sig head.name (patterns_of k clauses) (undefined_clause k head) n (Ok left) → JoinAnswer out left n (Err fault) → Answers (AddsMissing table sig clauses k hs out) (Err fault)
  first_join_fault [] head n left fault le e num h a = let no : ⊥ = omega arith in absurd no
  first_join_fault (x ∷ hs) head n left fault le e num h a = first hs e (Err fault) (join_missing_fault table sig clauses k head hs out left fault h (subst (λ (z : ℕ). JoinAnswer out left z (Err fault)) num a))

  pub first_go_on :
      (hs : List Head) (head : Head) (n m : ℕ) (left joined : List Clause) (r : Result (List Clause) PatternFault) → 1 ≤ length hs → head ≡ get_or hs 0 head → n ≡ length clauses → m ≡ k + 1 →
      MissingLeft table sig head.name (patterns_of k clauses) (undefined_clause k head) n (Ok left) → JoinAnswer out left n (Ok joined) →
      Answers (AddsMissing table sig clauses m (take (length hs - 1) (drop 1 hs)) joined) r → Answers (AddsMissing table sig clauses k hs out) r
  first_go_on [] head n m left joined r le e num up h a next = let no : ⊥ = omega arith in absurd no
  first_go_on (x ∷ hs) head n m left joined r le e num up h a next =
      let rest : take (length (x ∷ hs) - 1) hs ≡ hs = take_all (length (x ∷ hs) - 1) hs (omega arith) in
      let g = subst (λ (z : List Head). Answers (AddsMissing table sig clauses m z joined) r) rest next in
      first hs e r (go_on_missing table sig clauses k head hs out left joined r (subst (λ (z : ℕ). MissingLeft table sig head.name (patterns_of k clauses) (undefined_clause k head) z (Ok left)) num h) (subst (λ (z : ℕ). JoinAnswer out left z (Ok joined)) num a) (subst (λ (z : ℕ). Answers (AddsMissing table sig clauses z hs joined) r) up g))

-- the whole
module _ (table : ConTable) (sig : Signature) (clauses : List Clause) (heads : List Head) where
  pub whole_malformed : (fault : PatternFault) → form_fault table 1 clauses ≡ Some fault → Answers (IsCompletion table sig clauses heads) (Err fault)
  whole_malformed NoMemory e = tt
  whole_malformed (NotPattern i j) e = malformed (NotPattern i j) e
  whole_malformed (NonLinear i name) e = malformed (NonLinear i name) e
  whole_malformed (Redundant i) e = malformed (Redundant i) e
  whole_malformed (TooMany i) e = malformed (TooMany i) e

  pub whole_refused : (fault : PatternFault) → form_fault table 1 clauses ≡ None → Answers (Completes table sig heads [] clauses []) (Err fault) → Answers (IsCompletion table sig clauses heads) (Err fault)
  whole_refused NoMemory e h = tt
  whole_refused (NotPattern i j) e h = refused (NotPattern i j) e h
  whole_refused (NonLinear i name) e h = refused (NonLinear i name) e h
  whole_refused (Redundant i) e h = refused (Redundant i) e h
  whole_refused (TooMany i) e h = refused (TooMany i) e h

  pub whole_added :
      (out : List Clause) (r : Result (List Clause) PatternFault) → form_fault table 1 clauses ≡ None → Completes table sig heads [] clauses [] (Ok out) →
      Answers (AddsMissing table sig clauses 0 heads out) r → Answers (IsCompletion table sig clauses heads) r
  whole_added out r e h a = map_answers _ _ (λ answer step. added out answer e h step) r a

pub join_same : (out left other : List Clause) (n : ℕ) (r : Result (List Clause) PatternFault) → left ≡ other → JoinAnswer out left n r → JoinAnswer out other n r
join_same out left other n r e h = subst (λ (z : List Clause). JoinAnswer out z n r) e h

pub empty_start : (table : ConTable) (sig : Signature) (heads : List Head) (clauses out : List Clause) (r : Result (List Clause) PatternFault) → out ≡ [] → Answers (Completes table sig heads [] clauses out) r → Answers (Completes table sig heads [] clauses []) r
empty_start table sig heads clauses out r e h = subst (λ (z : List Clause). Answers (Completes table sig heads [] clauses z) r) e h
