-- The clause that matches comes from the first written clause that matches.
use Rattle.std.proofs.Common.{◌≡◌, ◌∙◌, ◌≤◌, ◌<◌, ◌+◌, ℕ, Bool, true, false, cond, ◌==◌, List, [], ◌∷◌, ◌++◌, refl, sym, ap, subst, arith, suc, append_assoc}
use Rattle.std.specs.Prelude.{Option, Some, None, Result, Ok, Err, length}
use Rattle.std.specs.List.{slice_get}
use Rattle.std.proofs.lemmas.Option.{same_Some}
use Rattle.std.proofs.lemmas.Bool.Decides.{Decides-eqb}
use Rattle.fp_term.specs.Types.{Typ}
use Rattle.fp_term.specs.Terms.{Tm}
use Rattle.fp_term.specs.declared.signature.Signature.{Signature}
use Rattle.fp_group.specs.declared.constructors.ConTable.{ConTable}
use Rattle.fp_group.specs.declared.clause.Clause.{Clause}
use Rattle.fp_group.specs.declared.clause.Head.{Head}
use Rattle.fp_pattern.specs.declared.faults.PatternFault.{PatternFault}
use Rattle.fp_pattern.specs.declared.faults.PatternFault.TheVariants.{NotPattern, NonLinear, Redundant, TooMany, NoMemory}
use Rattle.fp_pattern.specs.Subtraction.{AreParts, no_more, unfit, fit, IsMinus, none_common, all_covered, split, AreMinus, nothing, joined, IsLeft, whole, less}
use Rattle.fp_pattern.specs.Values.{Value, AreValues, all_match, one_if, count_matching, one_matches, depths, HasDistinct, IsFine}
use Rattle.fp_pattern.specs.Patterns.{is_pattern}
use Rattle.fp_pattern.specs.Completed.{noted, after_noted, or_fault, argument_fault, patterns_of, written, undefined_clause, variables_from, form_fault, Completes, all_completed, redundant, passing, too_many, one_completed, AddsMissing, all_added, passing_missing, too_many_missing, one_added, IsCompletion, malformed, refused, added, Answers}
use Rattle.fp_pattern.specs.Laws.{AreFit, first_from, HaveOrigins, ComeFromFirst, IsCovered, Means}
use Rattle.fp_pattern.proofs.Matching.{by_cases, or_parts}
use Rattle.fp_pattern.proofs.Steps.{within_left}
use Rattle.fp_pattern.proofs.Count.{left_count}
use Rattle.fp_pattern.proofs.Once.{fit_before, fit_more, AreOf, left_of}
use Rattle.fp_pattern.proofs.Whole.{fit_of_form, fine_start, match_from, completion_once}

-- all clauses have one origin
abbrev HaveOrigin : Option ℕ → List Clause → Type 0
HaveOrigin o [] = Unit {0}
HaveOrigin o (c ∷ cs) = (c.origin ≡ o) × HaveOrigin o cs

origin_append : (o : Option ℕ) (cs ds : List Clause) → HaveOrigin o cs → HaveOrigin o ds → HaveOrigin o (cs ++ ds)
origin_append o [] ds g h = h
origin_append o (c ∷ cs) ds g h = (g.0, origin_append o cs ds g.1 h)

module _ (table : ConTable) (sig : Signature) (f : List ℕ) (o : Option ℕ) where
  parts_origin : (c : Clause) (x : List ℕ) (s : Typ) (cons : List (List ℕ)) (parts : List Clause) → c.origin ≡ o → AreParts sig f c x s cons parts → HaveOrigin o parts
  parts_origin c x s _ _ e no_more = tt
  parts_origin c x s _ _ e (unfit con cons parts off more) = parts_origin c x s cons parts e more
  parts_origin c x s _ _ e (fit con cons part parts is more) = (ap (λ (z : Clause). z.origin) is.is ∙ e, parts_origin c x s cons parts e more)

  mutual
    minus_origin : (q : List Tm) (c : Clause) (left : List Clause) → c.origin ≡ o → IsMinus table sig f q c left → HaveOrigin o left
    minus_origin q _ _ e (none_common c off) = (e, tt)
    minus_origin q _ _ e (all_covered c off m) = tt
    minus_origin q _ _ e (split c x s parts left off m are more) = all_minus_origin q parts left (parts_origin c x s _ parts e are) more

    all_minus_origin : (q : List Tm) (cs left : List Clause) → HaveOrigin o cs → AreMinus table sig f q cs left → HaveOrigin o left
    all_minus_origin q _ _ e nothing = tt
    all_minus_origin q _ _ e (joined c cs left others is more) = origin_append o left others (minus_origin q c left e.0 is) (all_minus_origin q cs others e.1 more)

  left_origin : (qs : List (List Tm)) (cs left : List Clause) → HaveOrigin o cs → IsLeft table sig f qs cs left → HaveOrigin o left
  left_origin _ _ _ e (whole cs) = e
  left_origin _ _ _ e (less q qs cs ds left minus more) = left_origin qs ds left (all_minus_origin q cs ds e minus) more

-- clauses of one origin have it where they match, if it is the first that matches where one of them does
origins_of : (k : ℕ) (clauses : List Clause) (vs : List Value) (o : Option ℕ) (left : List Clause) → HaveOrigin o left → (0 < count_matching left vs → o ≡ first_from 1 k clauses vs) → HaveOrigins k clauses vs left
origins_of k clauses vs o [] h f = tt
origins_of k clauses vs o (c ∷ cs) h f =
    ((λ own on. h.0 ∙ f (let e : one_if (all_match c.patterns vs) ≡ 1 = rw on refl in omega arith)), origins_of k clauses vs o cs h.1 (λ lt. f (omega arith)))

origins_other : (j k : ℕ) (clauses : List Clause) (vs : List Value) (left : List Clause) → (j ≡ k → ⊥) → AreOf j left → HaveOrigins k clauses vs left
origins_other j k clauses vs [] ne h = tt
origins_other j k clauses vs (c ∷ cs) ne h = ((λ own on. absurd (ne (sym h.0 ∙ own))), origins_other j k clauses vs cs ne h.1)

origins_append : (k : ℕ) (clauses : List Clause) (vs : List Value) (cs ds : List Clause) → HaveOrigins k clauses vs cs → HaveOrigins k clauses vs ds → HaveOrigins k clauses vs (cs ++ ds)
origins_append k clauses vs [] ds g h = h
origins_append k clauses vs (c ∷ cs) ds g h = (g.0, origins_append k clauses vs cs ds g.1 h)

-- where no clause before matches, the first that matches is the next
first_here : (n k : ℕ) (before : List Clause) (c : Clause) (rest : List Clause) (vs : List Value) → one_matches (patterns_of k before) vs ≡ false → c.function ≡ k → all_match c.patterns vs ≡ true → Some (length before + n) ≡ first_from n k (before ++ c ∷ rest) vs
first_here n k [] c rest vs off own on = let e : 0 + n ≡ n = omega arith in rw ((Decides-eqb c.function k).1 own, on, e) refl
first_here n k (b ∷ before) c rest vs off own on =
    by_cases (b.function == k) _
    (λ is.
    let o = or_parts (all_match b.patterns vs) (one_matches (patterns_of k before) vs) (rw is at off) in
    let e : length (b ∷ before) + n ≡ length before + (n + 1) = omega arith in
    rw (is, o.0, e) (first_here (n + 1) k before c rest vs o.1 own on))
    (λ no.
    let e : length (b ∷ before) + n ≡ length before + (n + 1) = omega arith in
    rw (no, e) (first_here (n + 1) k before c rest vs (rw no at off) own on))

first_none : (n k : ℕ) (clauses : List Clause) (vs : List Value) → one_matches (patterns_of k clauses) vs ≡ false → None ≡ first_from n k clauses vs
first_none n k [] vs off = refl
first_none n k (b ∷ cs) vs off =
    by_cases (b.function == k) _
    (λ is. let o = or_parts (all_match b.patterns vs) (one_matches (patterns_of k cs) vs) (rw is at off) in rw (is, o.0) (first_none (n + 1) k cs vs o.1))
    (λ no. rw no (first_none (n + 1) k cs vs (rw no at off)))

-- something is counted only where the one test fails and the other holds
pub counted_only : (m n : Bool) (count : ℕ) → count ≡ cond m 0 (one_if n + 0) → 0 < count → (m ≡ false) × (n ≡ true)
counted_only true n count e lt = let no : ⊥ = omega arith in absurd no
counted_only false true count e lt = (refl, refl)
counted_only false false count e lt = let no : ⊥ = omega arith in absurd no

module _ (table : ConTable) (sig : Signature) (distinct : HasDistinct table) (k d : ℕ) (ss : List Typ) (vs : List Value) (values : AreValues table sig d ss vs) where
  step_origins :
      (before : List Clause) (c : Clause) (rest : List Clause) (n : ℕ) (f : List ℕ) (left : List Clause) → AreFit table sig k ss d before → (c.function ≡ k → IsFine table sig ss c × (depths c.patterns ≤ d)) → n ≡ length before + 1 →
      IsLeft table sig f (patterns_of c.function before) (written n c ∷ []) left → HaveOrigins k (before ++ c ∷ rest) vs left
  step_origins before c rest n f left before_fit fits num is =
      by_cases (c.function == k) _
      (λ same.
      let own = (Decides-eqb c.function k).0 same in
      let g : IsLeft table sig f (patterns_of k before) (written n c ∷ []) left = subst (λ (z : ℕ). IsLeft table sig f (patterns_of z before) (written n c ∷ []) left) own is in
      let fine : IsFine table sig ss (written n c) = record { typed = (fits own).0.typed; linear = (fits own).0.linear } in
      let m = left_count table sig distinct f ss d vs values (patterns_of k before) (written n c ∷ []) left (fine, tt) (fit_before table sig distinct k d ss vs values before before_fit) g in
      origins_of k (before ++ c ∷ rest) vs (Some n) left (left_origin table sig f (Some n) (patterns_of k before) (written n c ∷ []) left (refl, tt) g)
      (λ lt. let o = counted_only (one_matches (patterns_of k before) vs) (all_match c.patterns vs) (count_matching left vs) m lt in rw num (first_here 1 k before c rest vs o.0 own o.1)))
      (λ other.
      origins_other c.function k (before ++ c ∷ rest) vs left (λ e. let y : (c.function == k) ≡ true = (Decides-eqb c.function k).1 e in cc)
      (left_of table sig f c.function (patterns_of c.function before) (written n c ∷ []) left (refl, tt) is))

  pub completes_origins :
      (heads : List Head) (clauses before rest out : List Clause) (r : Result (List Clause) PatternFault) (all : List Clause) → clauses ≡ before ++ rest → AreFit table sig k ss d before → AreFit table sig k ss d rest → HaveOrigins k clauses vs out →
      Completes table sig heads before rest out r → r ≡ Ok all → HaveOrigins k clauses vs all
  completes_origins heads clauses _ _ _ _ all at bf rf have (all_completed before out) e = let same : out ≡ all = cc in rw (← same) have
  completes_origins heads clauses _ _ _ _ all at bf rf have (redundant before c rest out head n found num is) e = cc
  completes_origins heads clauses _ _ _ _ all at bf rf have (passing before c rest out head n found num p some) e = cc
  completes_origins heads clauses _ _ _ _ all at bf rf have (too_many before c rest out head n first left found num is lt) e = cc
  completes_origins heads clauses _ _ _ _ all at bf rf have (one_completed before c rest out head n first left answer found num is le more) e =
      let g = step_origins before c rest n head.name (first ∷ left) bf rf.0 num (within_left table sig head.name (patterns_of c.function before) (written n c ∷ []) (first ∷ left) is) in
      let h : HaveOrigins k clauses vs (first ∷ left) = subst (λ (z : List Clause). HaveOrigins k z vs (first ∷ left)) (sym at) g in
      completes_origins heads clauses (before ++ c ∷ []) rest (out ++ first ∷ left) answer all (at ∙ sym (append_assoc before (c ∷ []) rest)) (fit_more table sig distinct k d ss vs values before c bf rf.0) rf.1
      (origins_append k clauses vs out (first ∷ left) have h) more e

  pub adds_origins :
      (clauses : List Clause) → AreFit table sig k ss d clauses → (i j : ℕ) (heads : List Head) (out : List Clause) (r : Result (List Clause) PatternFault) (all : List Clause) →
      ((n : ℕ) (head : Head) → slice_get heads n ≡ Some head → j + n ≡ k → IsFine table sig ss (undefined_clause k head) × (all_match (variables_from 1 head.args) vs ≡ true)) →
      HaveOrigins k clauses vs out → AddsMissing table sig clauses j heads out r → r ≡ Ok all → HaveOrigins k clauses vs all
  adds_origins clauses fits i _ _ _ _ all own have (all_added j out) e = let same : out ≡ all = cc in rw (← same) have
  adds_origins clauses fits i _ _ _ _ all own have (passing_missing j head heads out p) e = cc
  adds_origins clauses fits i _ _ _ _ all own have (too_many_missing j head heads out left is long) e = cc
  adds_origins clauses fits i _ _ _ _ all own have (one_added j head heads out left answer is le more) e =
      let is' = within_left table sig head.name (patterns_of j clauses) (undefined_clause j head ∷ []) left is in
      let new : HaveOrigins k clauses vs left =
      by_cases (j == k) _
      (λ same.
      let here = (Decides-eqb j k).0 same in
      let w = own 0 head refl (omega arith) in
      let g : IsLeft table sig head.name (patterns_of k clauses) (undefined_clause k head ∷ []) left = subst (λ (z : ℕ). IsLeft table sig head.name (patterns_of z clauses) (undefined_clause z head ∷ []) left) here is' in
      let m = left_count table sig distinct head.name ss d vs values (patterns_of k clauses) (undefined_clause k head ∷ []) left (w.0, tt) (fit_before table sig distinct k d ss vs values clauses fits) g in
      origins_of k clauses vs None left (left_origin table sig head.name None (patterns_of k clauses) (undefined_clause k head ∷ []) left (refl, tt) g)
      (λ lt. first_none 1 k clauses vs (counted_only (one_matches (patterns_of k clauses) vs) (all_match (variables_from 1 head.args) vs) (count_matching left vs) m lt).0))
      (λ other.
      origins_other j k clauses vs left (λ h. let y : (j == k) ≡ true = (Decides-eqb j k).1 h in cc)
      (left_of table sig head.name j (patterns_of j clauses) (undefined_clause j head ∷ []) left (refl, tt) is')) in
      adds_origins clauses fits i (j + 1) heads (out ++ left) answer all (λ n h at eq. own (suc n) h at (omega arith)) (origins_append k clauses vs out left have new) more e

none_counted : (m n : Bool) → n ≡ true → 0 ≡ cond m 0 (one_if n + 0) → m ≡ true
none_counted true n on e = refl
none_counted false true on e = let no : ⊥ = omega arith in absurd no
none_counted false false on e = cc

pub fit_split : (table : ConTable) (sig : Signature) (k : ℕ) (ss : List Typ) (d : ℕ) (before : List Clause) (c : Clause) (rest : List Clause) → AreFit table sig k ss d (before ++ c ∷ rest) → AreFit table sig k ss d before × (c.function ≡ k → IsFine table sig ss c × (depths c.patterns ≤ d))
fit_split table sig k ss d [] c rest h = (tt, h.0)
fit_split table sig k ss d (b ∷ before) c rest h = let g = fit_split table sig k ss d before c rest h.1 in ((h.0, g.0), g.1)

-- a redundant clause is covered
redundant_covered :
    (table : ConTable) (sig : Signature) (clauses : List Clause) (heads : List Head) (before rest out : List Clause) (r : Result (List Clause) PatternFault) (i : ℕ) → form_fault table 1 clauses ≡ None → clauses ≡ before ++ rest →
    Completes table sig heads before rest out r → r ≡ Err (Redundant i) → IsCovered table sig clauses heads i
redundant_covered table sig clauses heads _ _ _ _ i fine at (all_completed before out) e = cc
redundant_covered table sig clauses heads _ _ _ _ i fine at (passing before c rest out head n found num p some) e = cc
redundant_covered table sig clauses heads _ _ _ _ i fine at (too_many before c rest out head n first left found num is lt) e = cc
redundant_covered table sig clauses heads _ _ _ _ i fine at (one_completed before c rest out head n first left answer found num is le more) e =
    redundant_covered table sig clauses heads (before ++ c ∷ []) rest (out ++ first ∷ left) answer i fine (at ∙ sym (append_assoc before (c ∷ []) rest)) more e
redundant_covered table sig clauses heads _ _ _ _ i fine at (redundant before c rest out head n found num is) e =
    let same : n ≡ i = cc in
    record {
      before = before;
      clause = c;
      rest = rest;
      place = at;
      number = sym same ∙ num;
      covered = λ distinct have d h vs got typed values on.
          let fits = fit_of_form table sig have c.function h.args d 1 clauses fine typed in
          let parts = fit_split table sig c.function h.args d before c rest (subst (λ (z : List Clause). AreFit table sig c.function h.args d z) at fits) in
          let whole_fine : IsFine table sig h.args (written n c) = record { typed = (parts.1 refl).0.typed; linear = (parts.1 refl).0.linear } in
          let m = left_count table sig distinct head.name h.args d vs values (patterns_of c.function before) (written n c ∷ []) [] (whole_fine, tt) (fit_before table sig distinct c.function d h.args vs values before parts.0) is in
          none_counted (one_matches (patterns_of c.function before) vs) (all_match c.patterns vs) on m;
    }

origins_hold : (table : ConTable) (sig : Signature) (clauses : List Clause) (heads : List Head) (out : List Clause) (r : Result (List Clause) PatternFault) (all : List Clause) → form_fault table 1 clauses ≡ None → Completes table sig heads [] clauses [] (Ok out) → AddsMissing table sig clauses 0 heads out r → r ≡ Ok all → ComeFromFirst table sig clauses heads all
origins_hold table sig clauses heads out r all fine done add e =
    λ distinct have k d head vs at small typed values.
    let fits = fit_of_form table sig have k head.args d 1 clauses fine typed in
    let origins = completes_origins table sig distinct k d head.args vs values heads clauses [] clauses [] (Ok out) out refl tt fits tt done refl in
    adds_origins table sig distinct k d head.args vs values clauses fits 0 0 heads out r all
    (λ n other got eq.
    let here : n ≡ k = omega arith in
    let same : head ≡ other = same_Some head other (sym at ∙ subst (λ (z : ℕ). slice_get heads z ≡ Some other) here got) in
    rw (← same) (fine_start table sig k head small, match_from table sig d 1 head.args vs values))
    origins add e

after_fault : (o : Result (List (List ℕ × Typ)) (List ℕ)) (i : ℕ) (next : List (List ℕ × Typ) → Option PatternFault) (n : ℕ) → ((more : List (List ℕ × Typ)) → next more ≡ Some (Redundant n) → ⊥) → after_noted o i next ≡ Some (Redundant n) → ⊥
after_fault (Ok more) i next n f e = f more e
after_fault (Err name) i next n f e = cc

either_fault : (a b : Option PatternFault) (n : ℕ) → (a ≡ Some (Redundant n) → ⊥) → (b ≡ Some (Redundant n) → ⊥) → or_fault a b ≡ Some (Redundant n) → ⊥
either_fault None b n f g e = g e
either_fault (Some x) b n f g e = f e

-- the patterns alone make no clause redundant, nor do the missing clauses
no_redundant_argument : (table : ConTable) (i j : ℕ) (seen : List (List ℕ × Typ)) (ps : List Tm) (n : ℕ) → argument_fault table i j seen ps ≡ Some (Redundant n) → ⊥
no_redundant_argument table i j seen [] n e = cc
no_redundant_argument table i j seen (p ∷ ps) n e =
    by_cases (is_pattern table p) _
    (λ is. after_fault (noted seen p) i (λ more. argument_fault table i (j + 1) more ps) n (λ more h. no_redundant_argument table i (j + 1) more ps n h) (rw is at e))
    (λ no. let f = rw no at e in cc)

pub no_redundant : (table : ConTable) (m : ℕ) (cs : List Clause) (n : ℕ) → form_fault table m cs ≡ Some (Redundant n) → ⊥
no_redundant table m [] n e = cc
no_redundant table m (c ∷ cs) n e = either_fault (argument_fault table m 1 [] c.patterns) (form_fault table (m + 1) cs) n (no_redundant_argument table m 1 [] c.patterns n) (no_redundant table (m + 1) cs n) e

after_many : (o : Result (List (List ℕ × Typ)) (List ℕ)) (i : ℕ) (next : List (List ℕ × Typ) → Option PatternFault) (n : ℕ) → ((more : List (List ℕ × Typ)) → next more ≡ Some (TooMany n) → ⊥) → after_noted o i next ≡ Some (TooMany n) → ⊥
after_many (Ok more) i next n f e = f more e
after_many (Err name) i next n f e = cc

either_many : (a b : Option PatternFault) (n : ℕ) → (a ≡ Some (TooMany n) → ⊥) → (b ≡ Some (TooMany n) → ⊥) → or_fault a b ≡ Some (TooMany n) → ⊥
either_many None b n f g e = g e
either_many (Some x) b n f g e = f e

no_many_argument : (table : ConTable) (i j : ℕ) (seen : List (List ℕ × Typ)) (ps : List Tm) (n : ℕ) → argument_fault table i j seen ps ≡ Some (TooMany n) → ⊥
no_many_argument table i j seen [] n e = cc
no_many_argument table i j seen (p ∷ ps) n e =
    by_cases (is_pattern table p) _
    (λ is. after_many (noted seen p) i (λ more. argument_fault table i (j + 1) more ps) n (λ more h. no_many_argument table i (j + 1) more ps n h) (rw is at e))
    (λ off. let f = rw off at e in cc)

pub no_many : (table : ConTable) (m : ℕ) (cs : List Clause) (n : ℕ) → form_fault table m cs ≡ Some (TooMany n) → ⊥
no_many table m [] n e = cc
no_many table m (c ∷ cs) n e = either_many (argument_fault table m 1 [] c.patterns) (form_fault table (m + 1) cs) n (no_many_argument table m 1 [] c.patterns n) (no_many table (m + 1) cs n) e

never_redundant : (table : ConTable) (sig : Signature) (clauses : List Clause) (j : ℕ) (heads : List Head) (out : List Clause) (r : Result (List Clause) PatternFault) (n : ℕ) → AddsMissing table sig clauses j heads out r → r ≡ Err (Redundant n) → ⊥
never_redundant table sig clauses _ _ _ _ n (all_added j out) e = cc
never_redundant table sig clauses _ _ _ _ n (passing_missing j head heads out p) e = cc
never_redundant table sig clauses _ _ _ _ n (too_many_missing j head heads out left is long) e = cc
never_redundant table sig clauses _ _ _ _ n (one_added j head heads out left answer is le more) e = never_redundant table sig clauses (j + 1) heads (out ++ left) answer n more e

-- what each answer means
pub completion_means : (table : ConTable) (sig : Signature) (clauses : List Clause) (heads : List Head) (r : Result (List Clause) PatternFault) → IsCompletion table sig clauses heads r → Means table sig clauses heads r
completion_means table sig clauses heads _ (malformed (Redundant i) bad) = absurd (no_redundant table 1 clauses i bad)
completion_means table sig clauses heads _ (malformed (NotPattern i j) bad) = tt
completion_means table sig clauses heads _ (malformed (NonLinear i name) bad) = tt
completion_means table sig clauses heads _ (malformed (TooMany i) bad) = tt
completion_means table sig clauses heads _ (malformed NoMemory bad) = tt
completion_means table sig clauses heads _ (refused (Redundant i) fine bad) = redundant_covered table sig clauses heads [] clauses [] (Err (Redundant i)) i fine refl bad refl
completion_means table sig clauses heads _ (refused (NotPattern i j) fine bad) = tt
completion_means table sig clauses heads _ (refused (NonLinear i name) fine bad) = tt
completion_means table sig clauses heads _ (refused (TooMany i) fine bad) = tt
completion_means table sig clauses heads _ (refused NoMemory fine bad) = tt
completion_means table sig clauses heads (Ok all) (added out _ fine done add) = (completion_once table sig clauses heads (Ok all) all (added out (Ok all) fine done add) refl, origins_hold table sig clauses heads out (Ok all) all fine done add refl)
completion_means table sig clauses heads (Err (Redundant i)) (added out _ fine done add) = absurd (never_redundant table sig clauses 0 heads out _ i add refl)
completion_means table sig clauses heads (Err (NotPattern i j)) (added out _ fine done add) = tt
completion_means table sig clauses heads (Err (NonLinear i name)) (added out _ fine done add) = tt
completion_means table sig clauses heads (Err (TooMany i)) (added out _ fine done add) = tt
completion_means table sig clauses heads (Err NoMemory) (added out _ fine done add) = tt

-- so does an answer of the program
pub answer_means : (table : ConTable) (sig : Signature) (clauses : List Clause) (heads : List Head) (r : Result (List Clause) PatternFault) → Answers (IsCompletion table sig clauses heads) r → Means table sig clauses heads r
answer_means table sig clauses heads (Ok out) h = completion_means table sig clauses heads (Ok out) h
answer_means table sig clauses heads (Err (Redundant i)) h = completion_means table sig clauses heads (Err (Redundant i)) h
answer_means table sig clauses heads (Err (NotPattern i j)) h = tt
answer_means table sig clauses heads (Err (NonLinear i name)) h = tt
answer_means table sig clauses heads (Err (TooMany i)) h = tt
answer_means table sig clauses heads (Err NoMemory) h = tt
