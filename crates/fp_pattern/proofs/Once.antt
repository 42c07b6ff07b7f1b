-- Each list of values matches exactly one completed clause of its function.
use Rattle.std.proofs.Common.{◌≡◌, ◌∙◌, ◌≤◌, ◌<◌, ◌+◌, ℕ, Bool, true, false, cond, ◌||◌, ◌==◌, List, [], ◌∷◌, ◌++◌, refl, sym, ap, subst, arith, zero, suc, append_assoc}
use Rattle.std.proofs.lemmas.List.{append-nil}
use Rattle.std.specs.Prelude.{Some, Result, Ok}
use Rattle.std.specs.List.{slice_get}
use Rattle.std.proofs.lemmas.Option.{none-some, same_Some}
use Rattle.std.proofs.lemmas.Bool.Decides.{Decides-eqb}
use Rattle.fp_term.specs.Types.{Typ}
use Rattle.fp_term.specs.Terms.{Tm}
use Rattle.fp_term.specs.declared.signature.Signature.{Signature}
use Rattle.fp_group.specs.declared.constructors.ConTable.{ConTable}
use Rattle.fp_group.specs.declared.clause.Clause.{Clause}
use Rattle.fp_group.specs.declared.clause.Head.{Head}
use Rattle.fp_pattern.specs.declared.faults.PatternFault.{PatternFault}
use Rattle.fp_pattern.specs.Subtraction.{AreParts, no_more, unfit, fit, IsMinus, none_common, all_covered, split, AreMinus, nothing, joined, IsLeft, whole, less}
use Rattle.fp_pattern.specs.Values.{Value, AreValues, all_match, one_if, count_matching, one_matches, depths, HasDistinct, IsFine, AreSubtrahends}
use Rattle.fp_pattern.specs.Completed.{patterns_of, written, undefined_clause, variables_from, Completes, all_completed, redundant, passing, too_many, one_completed, AddsMissing, all_added, passing_missing, too_many_missing, one_added}
use Rattle.fp_pattern.specs.Laws.{count_of, AreFit}
use Rattle.fp_pattern.proofs.Matching.{by_cases}
use Rattle.fp_pattern.proofs.Steps.{within_left}
use Rattle.fp_pattern.proofs.Count.{left_count}

-- all clauses are of one function
abbrev pub AreOf : ℕ → List Clause → Type 0
AreOf k [] = Unit {0}
AreOf k (c ∷ cs) = (c.function ≡ k) × AreOf k cs

of_append : (k : ℕ) (cs ds : List Clause) → AreOf k cs → AreOf k ds → AreOf k (cs ++ ds)
of_append k [] ds g h = h
of_append k (c ∷ cs) ds g h = (g.0, of_append k cs ds g.1 h)

module _ (table : ConTable) (sig : Signature) (f : List ℕ) (k : ℕ) where
  parts_of : (c : Clause) (x : List ℕ) (s : Typ) (cons : List (List ℕ)) (parts : List Clause) → c.function ≡ k → AreParts sig f c x s cons parts → AreOf k parts
  parts_of c x s _ _ e no_more = tt
  parts_of c x s _ _ e (unfit con cons parts off more) = parts_of c x s cons parts e more
  parts_of c x s _ _ e (fit con cons part parts is more) = (ap (λ (z : Clause). z.function) is.is ∙ e, parts_of c x s cons parts e more)

  mutual
    minus_of : (q : List Tm) (c : Clause) (left : List Clause) → c.function ≡ k → IsMinus table sig f q c left → AreOf k left
    minus_of q _ _ e (none_common c off) = (e, tt)
    minus_of q _ _ e (all_covered c off m) = tt
    minus_of q _ _ e (split c x s parts left off m are more) = all_minus_of q parts left (parts_of c x s _ parts e are) more

    all_minus_of : (q : List Tm) (cs left : List Clause) → AreOf k cs → AreMinus table sig f q cs left → AreOf k left
    all_minus_of q _ _ e nothing = tt
    all_minus_of q _ _ e (joined c cs left others is more) = of_append k left others (minus_of q c left e.0 is) (all_minus_of q cs others e.1 more)

  pub left_of : (qs : List (List Tm)) (cs left : List Clause) → AreOf k cs → IsLeft table sig f qs cs left → AreOf k left
  left_of _ _ _ e (whole cs) = e
  left_of _ _ _ e (less q qs cs ds left minus more) = left_of qs ds left (all_minus_of q cs ds e minus) more

count_own : (k : ℕ) (cs : List Clause) (vs : List Value) → AreOf k cs → count_of k cs vs ≡ count_matching cs vs
count_own k [] vs h = refl
count_own k (c ∷ cs) vs h = rw ((Decides-eqb c.function k).1 h.0) (ap (λ (z : ℕ). one_if (all_match c.patterns vs) + z) (count_own k cs vs h.1))

pub differs : (a b : ℕ) → (a ≡ b → ⊥) → (a == b) ≡ false
differs a b h = by_cases (a == b) _ (λ is. absurd (h ((Decides-eqb a b).0 is))) (λ no. no)

count_other : (j k : ℕ) (cs : List Clause) (vs : List Value) → (j ≡ k → ⊥) → AreOf j cs → count_of k cs vs ≡ 0
count_other j k [] vs ne h = refl
count_other j k (c ∷ cs) vs ne h = rw (differs c.function k (λ e. ne (sym h.0 ∙ e))) (omega (arith, count_other j k cs vs ne h.1))

count_of_append : (k : ℕ) (cs ds : List Clause) (vs : List Value) → count_of k (cs ++ ds) vs ≡ count_of k cs vs + count_of k ds vs
count_of_append k [] ds vs = omega arith
count_of_append k (c ∷ cs) ds vs = omega (arith, count_of_append k cs ds vs)

-- the patterns of the function, with one more clause
patterns_own : (k : ℕ) (cs : List Clause) (c : Clause) → c.function ≡ k → patterns_of k (cs ++ c ∷ []) ≡ patterns_of k cs ++ c.patterns ∷ []
patterns_own k [] c e = rw ((Decides-eqb c.function k).1 e) refl
patterns_own k (d ∷ cs) c e = by_cases (d.function == k) _ (λ is. rw (is, patterns_own k cs c e) refl) (λ no. rw (no, patterns_own k cs c e) refl)

patterns_other : (k : ℕ) (cs : List Clause) (c : Clause) → (c.function ≡ k → ⊥) → patterns_of k (cs ++ c ∷ []) ≡ patterns_of k cs
patterns_other k [] c ne = rw (differs c.function k ne) refl
patterns_other k (d ∷ cs) c ne = by_cases (d.function == k) _ (λ is. rw (is, patterns_other k cs c ne) refl) (λ no. rw (no, patterns_other k cs c ne) refl)

or_false : (b : Bool) → (b || false) ≡ b
or_false true = refl
or_false false = refl

plus_zero : (n : ℕ) → n + 0 ≡ n
plus_zero n = omega arith

one_more_matches : (qs : List (List Tm)) (q : List Tm) (vs : List Value) → one_matches (qs ++ q ∷ []) vs ≡ (one_matches qs vs || all_match q vs)
one_more_matches [] q vs = or_false (all_match q vs)
one_more_matches (p ∷ qs) q vs = by_cases (all_match p vs) _ (λ is. rw is refl) (λ no. rw no (one_more_matches qs q vs))

sum_of_tests : (m n : Bool) → one_if m + cond m 0 (one_if n + 0) ≡ one_if (m || n)
sum_of_tests true n = refl
sum_of_tests false true = refl
sum_of_tests false false = refl

sum_to_one : (m : Bool) → one_if m + cond m 0 1 ≡ 1
sum_to_one true = refl
sum_to_one false = refl

module _ (table : ConTable) (sig : Signature) (distinct : HasDistinct table) (k d : ℕ) (ss : List Typ) (vs : List Value) (values : AreValues table sig d ss vs) where
  pub fit_before : (cs : List Clause) → AreFit table sig k ss d cs → AreSubtrahends table sig ss d (patterns_of k cs)
  fit_before [] h = tt
  fit_before (c ∷ cs) h =
      by_cases (c.function == k) _
      (λ is. let g = h.0 ((Decides-eqb c.function k).0 is) in rw is (g.0.typed, (g.1, fit_before cs h.1)))
      (λ no. rw no (fit_before cs h.1))

  pub fit_more : (cs : List Clause) (c : Clause) → AreFit table sig k ss d cs → (c.function ≡ k → IsFine table sig ss c × (depths c.patterns ≤ d)) → AreFit table sig k ss d (cs ++ c ∷ [])
  fit_more [] c h g = (g, tt)
  fit_more (b ∷ cs) c h g = (h.0, fit_more cs c h.1 g)

  -- after the written clauses before, one clause matches where one of them does
  abbrev Covers : List Clause → List Clause → Type 0
  Covers before out = count_of k out vs ≡ one_if (one_matches (patterns_of k before) vs)

  step_own : (before : List Clause) (c : Clause) (n : ℕ) (f : List ℕ) (out left : List Clause) → AreFit table sig k ss d before → (c.function ≡ k → IsFine table sig ss c × (depths c.patterns ≤ d)) → Covers before out → IsLeft table sig f (patterns_of c.function before) (written n c ∷ []) left → c.function ≡ k → Covers (before ++ c ∷ []) (out ++ left)
  step_own before c n f out left before_fit fits covers is own =
      let g : IsLeft table sig f (patterns_of k before) (written n c ∷ []) left = subst (λ (z : ℕ). IsLeft table sig f (patterns_of z before) (written n c ∷ []) left) own is in
      let fine : IsFine table sig ss (written n c) = record { typed = (fits own).0.typed; linear = (fits own).0.linear } in
      let m = left_count table sig distinct f ss d vs values (patterns_of k before) (written n c ∷ []) left (fine, tt) (fit_before before before_fit) g in
      let o = count_own k left vs (left_of table sig f k (patterns_of k before) (written n c ∷ []) left (own, tt) g) in
      count_of_append k out left vs ∙
      rw (covers, o, m, patterns_own k before c own, one_more_matches (patterns_of k before) c.patterns vs) (sum_of_tests (one_matches (patterns_of k before) vs) (all_match c.patterns vs))

  step_other : (before : List Clause) (c : Clause) (n : ℕ) (f : List ℕ) (out left : List Clause) → Covers before out → IsLeft table sig f (patterns_of c.function before) (written n c ∷ []) left → (c.function ≡ k → ⊥) → Covers (before ++ c ∷ []) (out ++ left)
  step_other before c n f out left covers is ne =
      let o = count_other c.function k left vs ne (left_of table sig f c.function (patterns_of c.function before) (written n c ∷ []) left (refl, tt) is) in
      count_of_append k out left vs ∙ rw (covers, o, patterns_other k before c ne) (plus_zero (one_if (one_matches (patterns_of k before) vs)))

  step : (before : List Clause) (c : Clause) (n : ℕ) (f : List ℕ) (out left : List Clause) → AreFit table sig k ss d before → (c.function ≡ k → IsFine table sig ss c × (depths c.patterns ≤ d)) → Covers before out → IsLeft table sig f (patterns_of c.function before) (written n c ∷ []) left → Covers (before ++ c ∷ []) (out ++ left)
  step before c n f out left before_fit fits covers is =
      by_cases (c.function == k) _
      (λ own. step_own before c n f out left before_fit fits covers is ((Decides-eqb c.function k).0 own))
      (λ other. step_other before c n f out left covers is (λ e. let y : (c.function == k) ≡ true = (Decides-eqb c.function k).1 e in cc))

  pub completes_covers :
      (heads : List Head) (before rest out : List Clause) (r : Result (List Clause) PatternFault) (all : List Clause) → AreFit table sig k ss d before → AreFit table sig k ss d rest → Covers before out →
      Completes table sig heads before rest out r → r ≡ Ok all → count_of k all vs ≡ one_if (one_matches (patterns_of k (before ++ rest)) vs)
  completes_covers heads _ _ _ _ all bf rf covers (all_completed before out) e = let same : out ≡ all = cc in rw (append-nil before, ← same) covers
  completes_covers heads _ _ _ _ all bf rf covers (redundant before c rest out head n found num is) e = cc
  completes_covers heads _ _ _ _ all bf rf covers (passing before c rest out head n found num p some) e = cc
  completes_covers heads _ _ _ _ all bf rf covers (too_many before c rest out head n first left found num is lt) e = cc
  completes_covers heads _ _ _ _ all bf rf covers (one_completed before c rest out head n first left answer found num is le more) e =
      let g = step before c n head.name out (first ∷ left) bf rf.0 covers (within_left table sig head.name (patterns_of c.function before) (written n c ∷ []) (first ∷ left) is) in
      completes_covers heads (before ++ c ∷ []) rest (out ++ first ∷ left) answer all (fit_more before c bf rf.0) rf.1 g more e ∙ ap (λ (z : List Clause). one_if (one_matches (patterns_of k z) vs)) (append_assoc before (c ∷ []) rest)

  -- the missing clauses of the functions from `j` on
  module _ (clauses : List Clause) (fits : AreFit table sig k ss d clauses) where
    missing_own :
        (f : List ℕ) (head : Head) (out left : List Clause) → head.args ≡ ss → IsFine table sig ss (undefined_clause k head) → count_of k out vs ≡ one_if (one_matches (patterns_of k clauses) vs) →
        IsLeft table sig f (patterns_of k clauses) (undefined_clause k head ∷ []) left → all_match (variables_from 1 head.args) vs ≡ true → count_of k (out ++ left) vs ≡ 1
    missing_own f head out left same fine covers is on =
        let m = left_count table sig distinct f ss d vs values (patterns_of k clauses) (undefined_clause k head ∷ []) left (fine, tt) (fit_before clauses fits) is in
        let o = count_own k left vs (left_of table sig f k (patterns_of k clauses) (undefined_clause k head ∷ []) left (refl, tt) is) in
        count_of_append k out left vs ∙ rw (covers, o, m, on) (sum_to_one (one_matches (patterns_of k clauses) vs))

    missing_other :
        (j : ℕ) (f : List ℕ) (head : Head) (out left : List Clause) → (j ≡ k → ⊥) → IsLeft table sig f (patterns_of j clauses) (undefined_clause j head ∷ []) left → count_of k (out ++ left) vs ≡ count_of k out vs
    missing_other j f head out left ne is =
        let o = count_other j k left vs ne (left_of table sig f j (patterns_of j clauses) (undefined_clause j head ∷ []) left (refl, tt) is) in
        count_of_append k out left vs ∙ rw o (plus_zero (count_of k out vs))

    -- functions after `k` change nothing
    adds_after : (j : ℕ) (heads : List Head) (out : List Clause) (r : Result (List Clause) PatternFault) (all : List Clause) → k < j → AddsMissing table sig clauses j heads out r → r ≡ Ok all → count_of k all vs ≡ count_of k out vs
    adds_after _ _ _ _ all lt (all_added j out) e = let same : out ≡ all = cc in rw same refl
    adds_after _ _ _ _ all lt (passing_missing j head heads out p) e = cc
    adds_after _ _ _ _ all lt (too_many_missing j head heads out left is long) e = cc
    adds_after _ _ _ _ all lt (one_added j head heads out left answer is le more) e =
        adds_after (j + 1) heads (out ++ left) answer all (omega arith) more e ∙
        missing_other j head.name head out left (λ i. let no : ⊥ = omega arith in no) (within_left table sig head.name (patterns_of j clauses) (undefined_clause j head ∷ []) left is)

    pub adds_once :
        (i j : ℕ) (heads : List Head) (out : List Clause) (r : Result (List Clause) PatternFault) (all : List Clause) (own : Head) → j + i ≡ k → slice_get heads i ≡ Some own → own.args ≡ ss → IsFine table sig ss (undefined_clause k own) →
        all_match (variables_from 1 own.args) vs ≡ true → count_of k out vs ≡ one_if (one_matches (patterns_of k clauses) vs) → AddsMissing table sig clauses j heads out r → r ≡ Ok all → count_of k all vs ≡ 1
    adds_once i _ _ _ _ all own at got same fine on covers (all_added j out) e = absurd (none-some own got)
    adds_once i _ _ _ _ all own at got same fine on covers (passing_missing j head heads out p) e = cc
    adds_once i _ _ _ _ all own at got same fine on covers (too_many_missing j head heads out left is long) e = cc
    adds_once zero _ _ _ _ all own at got same fine on covers (one_added j head heads out left answer is le more) e =
        let here : j ≡ k = omega arith in
        let own_is : head ≡ own = same_Some head own got in
        let is' : IsLeft table sig head.name (patterns_of k clauses) (undefined_clause k head ∷ []) left = subst (λ (z : ℕ). IsLeft table sig head.name (patterns_of z clauses) (undefined_clause z head ∷ []) left) here (within_left table sig head.name (patterns_of j clauses) (undefined_clause j head ∷ []) left is) in
        adds_after (j + 1) heads (out ++ left) answer all (omega arith) more e ∙
        missing_own head.name head out left (rw own_is same) (rw own_is fine) covers is' (rw own_is on)
    adds_once (suc i) _ _ _ _ all own at got same fine on covers (one_added j head heads out left answer is le more) e =
        let c = missing_other j head.name head out left (λ h. let no : ⊥ = omega arith in no) (within_left table sig head.name (patterns_of j clauses) (undefined_clause j head ∷ []) left is) in
        adds_once i (j + 1) heads (out ++ left) answer all own (omega arith) got same fine on (c ∙ covers) more e
