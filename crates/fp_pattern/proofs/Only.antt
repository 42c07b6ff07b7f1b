-- There is one answer.
use Rattle.std.proofs.Common.{◌≡◌, ◌∙◌, ◌+◌, ℕ, List, [], ◌∷◌, ◌++◌, refl, sym, ap, subst, arith}
use Rattle.std.specs.Prelude.{Some, Result, Ok, Err, length}
use Rattle.std.specs.List.{slice_get}
use Rattle.std.proofs.lemmas.Option.{none-some, same_Some}
use Rattle.fp_term.specs.Terms.{Tm}
use Rattle.fp_term.specs.declared.signature.Signature.{Signature}
use Rattle.fp_group.specs.declared.constructors.ConTable.{ConTable}
use Rattle.fp_group.specs.declared.clause.Clause.{Clause}
use Rattle.fp_group.specs.declared.clause.Head.{Head}
use Rattle.fp_pattern.specs.declared.faults.PatternFault.{PatternFault}
use Rattle.fp_pattern.specs.declared.faults.PatternFault.TheVariants.{NotPattern, NonLinear, Redundant, TooMany, NoMemory}
use Rattle.fp_pattern.specs.Subtraction.{IsLeft}
use Rattle.fp_pattern.specs.Completed.{patterns_of, written, undefined_clause, IsLeftWithin, one_taken_off, Passes, passes_now, passes_later, some_left, Completes, all_completed, redundant, passing, too_many, one_completed, AddsMissing, all_added, passing_missing, too_many_missing, one_added, IsCompletion, malformed, refused, added, Answers}
use Rattle.fp_pattern.proofs.Steps.{within_left}
use Rattle.fp_pattern.proofs.Single.{all_minus_single, left_single}

module _ (table : ConTable) (sig : Signature) where
  not_both : (f : List ℕ) (qs : List (List Tm)) (cs left : List Clause) → Passes table sig f qs cs → IsLeftWithin table sig f qs cs left → ⊥
  not_both f _ _ _ (passes_now q qs cs ds m lt) (one_taken_off _ _ _ es left m' le more) = let e = all_minus_single table sig f q cs ds es m m' in let n : length ds ≡ length es = ap length e in omega arith
  not_both f _ _ _ (passes_later q qs cs ds m short p) (one_taken_off _ _ _ es left m' le more) = let e = all_minus_single table sig f q cs ds es m m' in not_both f qs es left (rw e at p) more

  -- what is left without the limit is also what is left within it
  same_left : (f g : List ℕ) (qs : List (List Tm)) (c d : Clause) (left other : List Clause) → f ≡ g → c ≡ d → IsLeft table sig f qs (c ∷ []) left → IsLeft table sig g qs (d ∷ []) other → left ≡ other
  same_left f g qs c d left other e h is is' = left_single table sig f qs (c ∷ []) left other is (rw (← e, ← h) at is')

  module _ (heads : List Head) where
    name_same : (before : List Clause) (c : Clause) (head head' : Head) (n n' : ℕ) → slice_get heads c.function ≡ Some head → slice_get heads c.function ≡ Some head' → n ≡ length before + 1 → n' ≡ length before + 1 → (head.name ≡ head'.name) × (n ≡ n')
    name_same before c head head' n n' e e' h h' = (ap (λ (z : Head). z.name) (same_Some head head' (sym e ∙ e')), h ∙ sym h')

    one_left :
        (before : List Clause) (c : Clause) (head head' : Head) (n n' : ℕ) (left other : List Clause) → slice_get heads c.function ≡ Some head → slice_get heads c.function ≡ Some head' → n ≡ length before + 1 → n' ≡ length before + 1 →
        IsLeft table sig head.name (patterns_of c.function before) (written n c ∷ []) left → IsLeft table sig head'.name (patterns_of c.function before) (written n' c ∷ []) other → left ≡ other
    one_left before c head head' n n' left other e e' h h' is is' =
        let s = name_same before c head head' n n' e e' h h' in
        same_left head.name head'.name (patterns_of c.function before) (written n c) (written n' c) left other s.0 (ap (λ (z : ℕ). written z c) s.1) is is'

    passes_same :
        (before : List Clause) (c : Clause) (head head' : Head) (n n' : ℕ) → slice_get heads c.function ≡ Some head → slice_get heads c.function ≡ Some head' → n ≡ length before + 1 → n' ≡ length before + 1 →
        Passes table sig head.name (patterns_of c.function before) (written n c ∷ []) → Passes table sig head'.name (patterns_of c.function before) (written n' c ∷ [])
    passes_same before c head head' n n' e e' h h' p = let s = name_same before c head head' n n' e e' h h' in rw (← s.0, ← s.1) p

    within : (before : List Clause) (c : Clause) (head : Head) (n : ℕ) (left : List Clause) → IsLeftWithin table sig head.name (patterns_of c.function before) (written n c ∷ []) left → IsLeft table sig head.name (patterns_of c.function before) (written n c ∷ []) left
    within before c head n left is = within_left table sig head.name (patterns_of c.function before) (written n c ∷ []) left is

    pub completes_only : (before rest out : List Clause) (r t : Result (List Clause) PatternFault) → Completes table sig heads before rest out r → Completes table sig heads before rest out t → r ≡ t
    completes_only _ _ _ _ _ (all_completed before out) (all_completed _ _) = refl
    completes_only _ _ _ _ _ (redundant before c rest out h n e num is) (redundant _ _ _ _ h' n' e' num' is') = ap (λ (z : ℕ). Err (Redundant z)) (num ∙ sym num')
    completes_only _ _ _ _ _ (redundant before c rest out h n e num is) (passing _ _ _ _ h' n' e' num' p (some_left d left is')) = let s = one_left before c h h' n n' [] (d ∷ left) e e' num num' is is' in cc
    completes_only _ _ _ _ _ (redundant before c rest out h n e num is) (too_many _ _ _ _ h' n' d left e' num' is' lt) = let s = one_left before c h h' n n' [] (d ∷ left) e e' num num' is (within before c h' n' (d ∷ left) is') in cc
    completes_only _ _ _ _ _ (redundant before c rest out h n e num is) (one_completed _ _ _ _ h' n' d left a e' num' is' le more) = let s = one_left before c h h' n n' [] (d ∷ left) e e' num num' is (within before c h' n' (d ∷ left) is') in cc
    completes_only _ _ _ _ _ (passing before c rest out h n e num p (some_left d left is)) (redundant _ _ _ _ h' n' e' num' is') = let s = one_left before c h h' n n' (d ∷ left) [] e e' num num' is is' in cc
    completes_only _ _ _ _ _ (passing before c rest out h n e num p some) (passing _ _ _ _ h' n' e' num' p' some') = ap (λ (z : ℕ). Err (TooMany z)) (num ∙ sym num')
    completes_only _ _ _ _ _ (passing before c rest out h n e num p some) (too_many _ _ _ _ h' n' d left e' num' is' lt) = ap (λ (z : ℕ). Err (TooMany z)) (num ∙ sym num')
    completes_only _ _ _ _ _ (passing before c rest out h n e num p some) (one_completed _ _ _ _ h' n' d left a e' num' is' le more) = absurd (not_both h'.name (patterns_of c.function before) (written n' c ∷ []) (d ∷ left) (passes_same before c h h' n n' e e' num num' p) is')
    completes_only _ _ _ _ _ (too_many before c rest out h n d left e num is lt) (redundant _ _ _ _ h' n' e' num' is') = let s = one_left before c h h' n n' (d ∷ left) [] e e' num num' (within before c h n (d ∷ left) is) is' in cc
    completes_only _ _ _ _ _ (too_many before c rest out h n d left e num is lt) (passing _ _ _ _ h' n' e' num' p some) = ap (λ (z : ℕ). Err (TooMany z)) (num ∙ sym num')
    completes_only _ _ _ _ _ (too_many before c rest out h n d left e num is lt) (too_many _ _ _ _ h' n' d' left' e' num' is' lt') = ap (λ (z : ℕ). Err (TooMany z)) (num ∙ sym num')
    completes_only _ _ _ _ _ (too_many before c rest out h n d left e num is lt) (one_completed _ _ _ _ h' n' d' left' a e' num' is' le more) =
        let s = one_left before c h h' n n' (d ∷ left) (d' ∷ left') e e' num num' (within before c h n (d ∷ left) is) (within before c h' n' (d' ∷ left') is') in
        let k : length (out ++ d ∷ left) ≡ length (out ++ d' ∷ left') = ap (λ (z : List Clause). length (out ++ z)) s in
        let no : ⊥ = omega arith in absurd no
    completes_only _ _ _ _ _ (one_completed before c rest out h n d left a e num is le more) (redundant _ _ _ _ h' n' e' num' is') = let s = one_left before c h h' n n' (d ∷ left) [] e e' num num' (within before c h n (d ∷ left) is) is' in cc
    completes_only _ _ _ _ _ (one_completed before c rest out h n d left a e num is le more) (passing _ _ _ _ h' n' e' num' p some) = absurd (not_both h.name (patterns_of c.function before) (written n c ∷ []) (d ∷ left) (passes_same before c h' h n' n e' e num' num p) is)
    completes_only _ _ _ _ _ (one_completed before c rest out h n d left a e num is le more) (too_many _ _ _ _ h' n' d' left' e' num' is' lt) =
        let s = one_left before c h h' n n' (d ∷ left) (d' ∷ left') e e' num num' (within before c h n (d ∷ left) is) (within before c h' n' (d' ∷ left') is') in
        let k : length (out ++ d ∷ left) ≡ length (out ++ d' ∷ left') = ap (λ (z : List Clause). length (out ++ z)) s in
        let no : ⊥ = omega arith in absurd no
    completes_only _ _ _ _ _ (one_completed before c rest out h n d left a e num is le more) (one_completed _ _ _ _ h' n' d' left' a' e' num' is' le' more') =
        let s = one_left before c h h' n n' (d ∷ left) (d' ∷ left') e e' num num' (within before c h n (d ∷ left) is) (within before c h' n' (d' ∷ left') is') in
        completes_only (before ++ c ∷ []) rest (out ++ d ∷ left) a a' more (subst (λ (z : List Clause). Completes table sig heads (before ++ c ∷ []) rest (out ++ z) a') (sym s) more')

    module _ (clauses : List Clause) where
      missing_left : (k : ℕ) (head : Head) (left other : List Clause) → IsLeftWithin table sig head.name (patterns_of k clauses) (undefined_clause k head ∷ []) left → IsLeftWithin table sig head.name (patterns_of k clauses) (undefined_clause k head ∷ []) other → left ≡ other
      missing_left k head left other is is' =
          left_single table sig head.name (patterns_of k clauses) (undefined_clause k head ∷ []) left other (within_left table sig head.name (patterns_of k clauses) (undefined_clause k head ∷ []) left is)
          (within_left table sig head.name (patterns_of k clauses) (undefined_clause k head ∷ []) other is')

      adds_only : (k : ℕ) (hs : List Head) (out : List Clause) (r t : Result (List Clause) PatternFault) → AddsMissing table sig clauses k hs out r → AddsMissing table sig clauses k hs out t → r ≡ t
      adds_only _ _ _ _ _ (all_added k out) (all_added _ _) = refl
      adds_only _ _ _ _ _ (passing_missing k h hs out p) (passing_missing _ _ _ _ p') = refl
      adds_only _ _ _ _ _ (passing_missing k h hs out p) (too_many_missing _ _ _ _ left is lt) = refl
      adds_only _ _ _ _ _ (passing_missing k h hs out p) (one_added _ _ _ _ left a is le more) = absurd (not_both h.name (patterns_of k clauses) (undefined_clause k h ∷ []) left p is)
      adds_only _ _ _ _ _ (too_many_missing k h hs out left is lt) (passing_missing _ _ _ _ p) = refl
      adds_only _ _ _ _ _ (too_many_missing k h hs out left is lt) (too_many_missing _ _ _ _ left' is' lt') = refl
      adds_only _ _ _ _ _ (too_many_missing k h hs out left is lt) (one_added _ _ _ _ left' a is' le more) =
          let s : length (out ++ left) ≡ length (out ++ left') = ap (λ (z : List Clause). length (out ++ z)) (missing_left k h left left' is is') in
          let no : ⊥ = omega arith in absurd no
      adds_only _ _ _ _ _ (one_added k h hs out left a is le more) (passing_missing _ _ _ _ p) = absurd (not_both h.name (patterns_of k clauses) (undefined_clause k h ∷ []) left p is)
      adds_only _ _ _ _ _ (one_added k h hs out left a is le more) (too_many_missing _ _ _ _ left' is' lt) =
          let s : length (out ++ left) ≡ length (out ++ left') = ap (λ (z : List Clause). length (out ++ z)) (missing_left k h left left' is is') in
          let no : ⊥ = omega arith in absurd no
      adds_only _ _ _ _ _ (one_added k h hs out left a is le more) (one_added _ _ _ _ left' a' is' le' more') =
          let s = missing_left k h left left' is is' in
          adds_only (k + 1) hs (out ++ left) a a' more (subst (λ (z : List Clause). AddsMissing table sig clauses (k + 1) hs (out ++ z) a') (sym s) more')

      completion_only : (r t : Result (List Clause) PatternFault) → IsCompletion table sig clauses heads r → IsCompletion table sig clauses heads t → r ≡ t
      completion_only _ _ (malformed x e) (malformed y e') = ap Err (same_Some x y (sym e ∙ e'))
      completion_only _ _ (malformed x e) (refused y e' c) = absurd (none-some _ (sym e' ∙ e))
      completion_only _ _ (malformed x e) (added out t e' c a) = absurd (none-some _ (sym e' ∙ e))
      completion_only _ _ (refused x e c) (malformed y e') = absurd (none-some _ (sym e ∙ e'))
      completion_only _ _ (refused x e c) (refused y e' c') = completes_only [] clauses [] (Err x) (Err y) c c'
      completion_only _ _ (refused x e c) (added out t e' c' a) = let s = completes_only [] clauses [] (Err x) (Ok out) c c' in cc
      completion_only _ _ (added out r e c a) (malformed y e') = absurd (none-some _ (sym e ∙ e'))
      completion_only _ _ (added out r e c a) (refused y e' c') = let s = completes_only [] clauses [] (Ok out) (Err y) c c' in cc
      completion_only _ _ (added out r e c a) (added out' t e' c' a') =
          let s = completes_only [] clauses [] (Ok out) (Ok out') c c' in
          let same : out ≡ out' = cc in
          adds_only 0 heads out r t a (subst (λ (z : List Clause). AddsMissing table sig clauses 0 heads z t) (sym same) a')

      -- each completion is what the program answers
      pub answer_only : (r : Result (List Clause) PatternFault) → Answers (IsCompletion table sig clauses heads) r → (t : Result (List Clause) PatternFault) → IsCompletion table sig clauses heads t → Answers (λ (z : Result (List Clause) PatternFault). z ≡ t) r
      answer_only (Ok out) h t is = completion_only (Ok out) t h is
      answer_only (Err (NotPattern i j)) h t is = completion_only (Err (NotPattern i j)) t h is
      answer_only (Err (NonLinear i name)) h t is = completion_only (Err (NonLinear i name)) t h is
      answer_only (Err (Redundant i)) h t is = completion_only (Err (Redundant i)) t h is
      answer_only (Err (TooMany i)) h t is = completion_only (Err (TooMany i)) t h is
      answer_only (Err NoMemory) h t is = tt
