-- Each completed clause is an instance of a written one, or of all values of its function.
use Rattle.std.proofs.Common.{◌≡◌, ◌∙◌, ◌+◌, ℕ, List, [], ◌∷◌, ◌++◌, refl, sym, subst, arith, append_assoc, suc}
use Rattle.std.specs.Prelude.{Some, Result, Ok, Err, length}
use Rattle.std.specs.List.{slice_get}
use Rattle.fp_term.specs.Types.{Typ}
use Rattle.fp_term.specs.Terms.{Tm}
use Rattle.fp_term.specs.declared.signature.Signature.{Signature}
use Rattle.fp_group.specs.declared.constructors.ConTable.{ConTable}
use Rattle.fp_group.specs.declared.clause.Clause.{Clause}
use Rattle.fp_group.specs.declared.clause.Head.{Head}
use Rattle.fp_pattern.specs.declared.faults.PatternFault.{PatternFault}
use Rattle.fp_pattern.specs.Subtraction.{AreParts, no_more, unfit, fit, IsMinus, none_common, all_covered, split, AreMinus, nothing, joined, IsLeft, whole, less}
use Rattle.fp_pattern.specs.Completed.{patterns_of, written, undefined_clause, Completes, all_completed, redundant, passing, too_many, one_completed, AddsMissing, all_added, passing_missing, too_many_missing, one_added, IsCompletion, malformed, refused, added, Answers}
use Rattle.fp_pattern.specs.Instances.{IsInstanceOf, itself, further, from_written, from_all, AllCome, ComeFrom}
use Rattle.fp_pattern.proofs.Steps.{within_left}

-- all clauses are instances of one
abbrev AreInstances : Clause → List Clause → Type 0
AreInstances c [] = Unit {0}
AreInstances c (d ∷ ds) = IsInstanceOf c d × AreInstances c ds

instances_append : (c : Clause) (ds es : List Clause) → AreInstances c ds → AreInstances c es → AreInstances c (ds ++ es)
instances_append c [] es g h = h
instances_append c (d ∷ ds) es g h = (g.0, instances_append c ds es g.1 h)

module _ (table : ConTable) (sig : Signature) (f : List ℕ) (o : Clause) where
  parts_instances : (c : Clause) (x : List ℕ) (s : Typ) (cons : List (List ℕ)) (parts : List Clause) → IsInstanceOf o c → AreParts sig f c x s cons parts → AreInstances o parts
  parts_instances c x s _ _ i no_more = tt
  parts_instances c x s _ _ i (unfit con cons parts off more) = parts_instances c x s cons parts i more
  parts_instances c x s _ _ i (fit con cons part parts is more) = (rw is.is (further c x s is.value i), parts_instances c x s cons parts i more)

  mutual
    minus_instances : (q : List Tm) (c : Clause) (left : List Clause) → IsInstanceOf o c → IsMinus table sig f q c left → AreInstances o left
    minus_instances q _ _ i (none_common c off) = (i, tt)
    minus_instances q _ _ i (all_covered c off m) = tt
    minus_instances q _ _ i (split c x s parts left off m are more) = all_minus_instances q parts left (parts_instances c x s _ parts i are) more

    all_minus_instances : (q : List Tm) (cs left : List Clause) → AreInstances o cs → AreMinus table sig f q cs left → AreInstances o left
    all_minus_instances q _ _ i nothing = tt
    all_minus_instances q _ _ i (joined c cs left others is more) = instances_append o left others (minus_instances q c left i.0 is) (all_minus_instances q cs others i.1 more)

  left_instances : (qs : List (List Tm)) (cs left : List Clause) → AreInstances o cs → IsLeft table sig f qs cs left → AreInstances o left
  left_instances _ _ _ i (whole cs) = i
  left_instances _ _ _ i (less q qs cs ds left minus more) = left_instances qs ds left (all_minus_instances q cs ds i minus) more

come_append : (clauses : List Clause) (heads : List Head) (ds es : List Clause) → AllCome clauses heads ds → AllCome clauses heads es → AllCome clauses heads (ds ++ es)
come_append clauses heads [] es g h = h
come_append clauses heads (d ∷ ds) es g h = (g.0, come_append clauses heads ds es g.1 h)

come_written : (clauses : List Clause) (heads : List Head) (before : List Clause) (c : Clause) (rest : List Clause) (n : ℕ) → clauses ≡ before ++ c ∷ rest → n ≡ length before + 1 → (ds : List Clause) → AreInstances (written n c) ds → AllCome clauses heads ds
come_written clauses heads before c rest n at num [] i = tt
come_written clauses heads before c rest n at num (d ∷ ds) i = (from_written before c rest n at num i.0, come_written clauses heads before c rest n at num ds i.1)

come_all : (clauses : List Clause) (heads : List Head) (k : ℕ) (head : Head) → slice_get heads k ≡ Some head → (ds : List Clause) → AreInstances (undefined_clause k head) ds → AllCome clauses heads ds
come_all clauses heads k head at [] i = tt
come_all clauses heads k head at (d ∷ ds) i = (from_all k head at i.0, come_all clauses heads k head at ds i.1)

module _ (table : ConTable) (sig : Signature) (clauses : List Clause) (heads : List Head) where
  completes_come : (before rest out : List Clause) (r : Result (List Clause) PatternFault) → clauses ≡ before ++ rest → AllCome clauses heads out → Completes table sig heads before rest out r → ComeFrom clauses heads r
  completes_come _ _ _ _ at i (all_completed before out) = i
  completes_come _ _ _ _ at i (redundant before c rest out head n found num is) = tt
  completes_come _ _ _ _ at i (passing before c rest out head n found num p some) = tt
  completes_come _ _ _ _ at i (too_many before c rest out head n first left found num is lt) = tt
  completes_come _ _ _ _ at i (one_completed before c rest out head n first left answer found num is le more) =
      let is' = within_left table sig head.name (patterns_of c.function before) (written n c ∷ []) (first ∷ left) is in
      let own = come_written clauses heads before c rest n at num (first ∷ left) (left_instances table sig head.name (written n c) (patterns_of c.function before) (written n c ∷ []) (first ∷ left) (itself, tt) is') in
      completes_come (before ++ c ∷ []) rest (out ++ first ∷ left) answer (at ∙ sym (append_assoc before (c ∷ []) rest)) (come_append clauses heads out (first ∷ left) i own) more

  adds_come : (k : ℕ) (hs : List Head) (out : List Clause) (r : Result (List Clause) PatternFault) → ((j : ℕ) (head : Head) → slice_get hs j ≡ Some head → slice_get heads (j + k) ≡ Some head) → AllCome clauses heads out → AddsMissing table sig clauses k hs out r → ComeFrom clauses heads r
  adds_come _ _ _ _ at i (all_added k out) = i
  adds_come _ _ _ _ at i (passing_missing k head hs out p) = tt
  adds_come _ _ _ _ at i (too_many_missing k head hs out left is lt) = tt
  adds_come _ _ _ _ at i (one_added k head hs out left answer is le more) =
      let is' = within_left table sig head.name (patterns_of k clauses) (undefined_clause k head ∷ []) left is in
      let zeroth : 0 + k ≡ k = omega arith in
      let here : slice_get heads k ≡ Some head = subst (λ (z : ℕ). slice_get heads z ≡ Some head) zeroth (at 0 head refl) in
      let own = come_all clauses heads k head here left (left_instances table sig head.name (undefined_clause k head) (patterns_of k clauses) (undefined_clause k head ∷ []) left (itself, tt) is') in
      adds_come (k + 1) hs (out ++ left) answer
      (λ j other got.
      let moved : (j + 1) + k ≡ j + (k + 1) = omega arith in
      let next : suc j ≡ j + 1 = omega arith in
      subst (λ (z : ℕ). slice_get heads z ≡ Some other) moved (subst (λ (z : ℕ). slice_get heads (z + k) ≡ Some other) next (at (suc j) other got)))
      (come_append clauses heads out left i own) more

  comes : (r : Result (List Clause) PatternFault) → IsCompletion table sig clauses heads r → ComeFrom clauses heads r
  comes _ (malformed fault bad) = tt
  comes _ (refused fault fine bad) = tt
  comes _ (added out r fine done add) =
      adds_come 0 heads out r (λ j head got. let e : j ≡ j + 0 = omega arith in subst (λ (z : ℕ). slice_get heads z ≡ Some head) e got) (completes_come [] clauses [] (Ok out) refl tt done) add

  pub answer_comes : (r : Result (List Clause) PatternFault) → Answers (IsCompletion table sig clauses heads) r → ComeFrom clauses heads r
  answer_comes (Ok out) h = comes (Ok out) h
  answer_comes (Err fault) h = tt
