-- Which clauses an answer shows to be needed.
use Rattle.std.proofs.Common.{◌≡◌, ◌∙◌, ◌≤◌, ◌<◌, ◌+◌, ℕ, ◌==◌, nat_lt, List, [], ◌∷◌, ◌++◌, refl, sym, ap, subst, arith, append_assoc}
use Rattle.std.specs.Prelude.{None, Result, Ok, Err, length}
use Rattle.std.proofs.lemmas.List.{append-nil, length-append}
use Rattle.fp_term.specs.Types.{Typ}
use Rattle.fp_term.specs.Terms.{Tm, bound, free, constant, app, abs}
use Rattle.fp_term.specs.declared.signature.Signature.{Signature}
use Rattle.fp_group.specs.declared.constructors.ConTable.{ConTable}
use Rattle.fp_group.specs.declared.clause.Clause.{Clause}
use Rattle.fp_group.specs.declared.clause.Head.{Head}
use Rattle.fp_pattern.specs.declared.faults.PatternFault.{PatternFault}
use Rattle.fp_pattern.specs.declared.faults.PatternFault.TheVariants.{NotPattern, NonLinear, Redundant, TooMany, NoMemory}
use Rattle.fp_pattern.specs.Subtraction.{IsLeft}
use Rattle.fp_pattern.specs.Values.{depth_of, depths, HasDistinct, IsFine, AreSubtrahends}
use Rattle.fp_pattern.specs.Completed.{patterns_of, written, form_fault, some_left, Completes, all_completed, redundant, passing, too_many, one_completed, AddsMissing, all_added, passing_missing, too_many_missing, one_added, IsCompletion, malformed, refused, added, Answers}
use Rattle.fp_pattern.specs.Conditions.{HasConstructors}
use Rattle.fp_pattern.specs.Laws.{AreFit, AreTyped}
use Rattle.fp_pattern.specs.Witness.{AllTypes, HasValues, levels, all_levels, IsNeeded, AreNeeded, ShowsNeeded}
use Rattle.std.proofs.lemmas.Bool.Decides.{Decides-eqb}
use Rattle.std.proofs.lemmas.Bool.{ltb-true, ltb-false}
use Rattle.fp_pattern.proofs.Matching.{by_cases}
use Rattle.fp_pattern.proofs.Steps.{within_left}
use Rattle.fp_pattern.proofs.Whole.{fit_of_form}
use Rattle.fp_pattern.proofs.Origins.{fit_split, no_redundant, no_many}
use Rattle.fp_pattern.proofs.Needed.{needed}

levels_depth : (p : Tm) → levels p ≤ depth_of p
levels_depth (app f x) = omega (arith, levels_depth f, levels_depth x)
levels_depth (bound n) = omega arith
levels_depth (free x s) = omega arith
levels_depth (constant x s) = omega arith
levels_depth (abs s x) = omega arith

all_levels_depths : (ps : List Tm) → all_levels ps ≤ depths ps
all_levels_depths [] = omega arith
all_levels_depths (p ∷ ps) = omega (arith, levels_depth p, all_levels_depths ps)

-- the clauses before are fit to be taken off
subtrahends : (table : ConTable) (sig : Signature) (k d : ℕ) (ss : List Typ) (cs : List Clause) → AreFit table sig k ss d cs → AreSubtrahends table sig ss d (patterns_of k cs)
subtrahends table sig k d ss [] h = tt
subtrahends table sig k d ss (c ∷ cs) h =
    by_cases (c.function == k) _
    (λ is. let g = h.0 ((Decides-eqb c.function k).0 is) in rw is (g.0.typed, (g.1, subtrahends table sig k d ss cs h.1)))
    (λ off. rw off (subtrahends table sig k d ss cs h.1))

-- lists that are equal have equal parts at one place
same_place : (xs ys : List Clause) (a b : Clause) (us ws : List Clause) → xs ++ a ∷ us ≡ ys ++ b ∷ ws → length xs ≡ length ys → (xs ≡ ys) × (a ≡ b)
same_place [] [] a b xs' ys' e h = let g : a ≡ b = cc in (refl, g)
same_place [] (y ∷ ys) a b xs' ys' e h = let no : ⊥ = omega arith in absurd no
same_place (x ∷ xs) [] a b xs' ys' e h = let no : ⊥ = omega arith in absurd no
same_place (x ∷ xs) (y ∷ ys) a b xs' ys' e h =
    let g : xs ++ a ∷ xs' ≡ ys ++ b ∷ ys' = cc in
    let i : x ≡ y = cc in
    let r = same_place xs ys a b xs' ys' g (omega arith) in
    (rw (i, r.0) refl, r.1)

by_order : (a b : ℕ) (P : Type 0) → a < b + 1 → (a < b → P) → (a ≡ b → P) → P
by_order a b P lt f g = by_cases (nat_lt a b) P (λ is. f (ltb-true a b is)) (λ off. let h = ltb-false a b off in g (omega arith))

module _ (table : ConTable) (sig : Signature) (clauses : List Clause) (heads : List Head) (fine : form_fault table 1 clauses ≡ None) where
  abbrev Up : ℕ → Type 0
  Up m = AreNeeded table sig clauses heads m

  here_needed :
      (before : List Clause) (c : Clause) (rest : List Clause) (n : ℕ) (name : List ℕ) (first : Clause) (left : List Clause) → clauses ≡ before ++ c ∷ rest → IsLeft table sig name (patterns_of c.function before) (written n c ∷ []) (first ∷ left) →
      HasDistinct table → HasConstructors table sig → HasValues table sig → (d : ℕ) (head : Head) → AllTypes sig head.args → AreTyped table sig c.function head.args d clauses → IsNeeded table sig head.args d c before
  here_needed before c rest n name first left at is distinct have inhabited d head types typed =
      let fits = fit_of_form table sig have c.function head.args d 1 clauses fine typed in
      let parts = fit_split table sig c.function head.args d before c rest (subst (λ (z : List Clause). AreFit table sig c.function head.args d z) at fits) in
      let own : IsFine table sig head.args (written n c) = record { typed = (parts.1 refl).0.typed; linear = (parts.1 refl).0.linear } in
      let low : all_levels c.patterns ≤ d = omega (arith, all_levels_depths c.patterns, (parts.1 refl).1) in
      let w = needed table sig name head.args d distinct inhabited types (patterns_of c.function before) (written n c) first left own low (subtrahends table sig c.function d head.args before parts.0) is in
      record { vs = w.0; values = w.1.0; matched = w.1.1.0; unmatched = w.1.1.1 }

  up_more :
      (before : List Clause) (c : Clause) (rest : List Clause) (n : ℕ) (name : List ℕ) (first : Clause) (left : List Clause) → clauses ≡ before ++ c ∷ rest → Up (length before) → IsLeft table sig name (patterns_of c.function before) (written n c ∷ []) (first ∷ left) → Up (length before + 1)
  up_more before c rest n name first left at up is = λ other e rest' at' lt distinct have inhabited d head got types typed.
      by_order (length other) (length before) (IsNeeded table sig head.args d e other) lt
      (λ less. up other e rest' at' less distinct have inhabited d head got types typed)
      (λ equal.
      let s = same_place other before e c rest' rest (sym at' ∙ at) equal in
      let typed' : AreTyped table sig c.function head.args d clauses = rw s.1 at typed in
      rw (s.0, s.1) (here_needed before c rest n name first left at is distinct have inhabited d head types typed'))

  length_one_more : (before : List Clause) (c : Clause) → length (before ++ c ∷ []) ≡ length before + 1
  length_one_more before c = omega (arith, length-append before (c ∷ []))

  shown_by : (before rest out : List Clause) (r : Result (List Clause) PatternFault) → clauses ≡ before ++ rest → Up (length before) → Completes table sig heads before rest out r → ShowsNeeded table sig clauses heads r
  shown_by _ _ _ _ at up (all_completed before out) = let e : length clauses ≡ length before = ap length at ∙ ap length (append-nil before) in rw e up
  shown_by _ _ _ _ at up (redundant before c rest out head n found num is) = λ m e. let same : m ≡ length before = omega arith in rw same up
  shown_by _ _ _ _ at up (passing before c rest out head n found num p (some_left first left is)) = rw num (up_more before c rest n head.name first left at up is)
  shown_by _ _ _ _ at up (too_many before c rest out head n first left found num is lt) =
      rw num (up_more before c rest n head.name first left at up (within_left table sig head.name (patterns_of c.function before) (written n c ∷ []) (first ∷ left) is))
  shown_by _ _ _ _ at up (one_completed before c rest out head n first left answer found num is le more) =
      let g = up_more before c rest n head.name first left at up (within_left table sig head.name (patterns_of c.function before) (written n c ∷ []) (first ∷ left) is) in
      let e = length_one_more before c in
      shown_by (before ++ c ∷ []) rest (out ++ first ∷ left) answer (at ∙ sym (append_assoc before (c ∷ []) rest)) (rw e g) more

  shown_missing : (k : ℕ) (hs : List Head) (out : List Clause) (r : Result (List Clause) PatternFault) → Up (length clauses) → AddsMissing table sig clauses k hs out r → ShowsNeeded table sig clauses heads r
  shown_missing _ _ _ _ up (all_added k out) = up
  shown_missing _ _ _ _ up (passing_missing k head hs out p) = up
  shown_missing _ _ _ _ up (too_many_missing k head hs out left is lt) = up
  shown_missing _ _ _ _ up (one_added k head hs out left answer is le more) = shown_missing (k + 1) hs (out ++ left) answer up more

nothing_before : (table : ConTable) (sig : Signature) (clauses : List Clause) (heads : List Head) → AreNeeded table sig clauses heads 0
nothing_before table sig clauses heads = λ before c rest at lt distinct have inhabited d head got types typed. let no : ⊥ = omega arith in absurd no

shown : (table : ConTable) (sig : Signature) (clauses : List Clause) (heads : List Head) (r : Result (List Clause) PatternFault) → IsCompletion table sig clauses heads r → ShowsNeeded table sig clauses heads r
shown table sig clauses heads _ (malformed (Redundant i) bad) = absurd (no_redundant table 1 clauses i bad)
shown table sig clauses heads _ (malformed (TooMany i) bad) = absurd (no_many table 1 clauses i bad)
shown table sig clauses heads _ (malformed (NotPattern i j) bad) = tt
shown table sig clauses heads _ (malformed (NonLinear i name) bad) = tt
shown table sig clauses heads _ (malformed NoMemory bad) = tt
shown table sig clauses heads _ (refused fault fine bad) = shown_by table sig clauses heads fine [] clauses [] (Err fault) refl (nothing_before table sig clauses heads) bad
shown table sig clauses heads _ (added out r fine done add) = shown_missing table sig clauses heads fine 0 heads out r (shown_by table sig clauses heads fine [] clauses [] (Ok out) refl (nothing_before table sig clauses heads) done) add

pub answer_shows : (table : ConTable) (sig : Signature) (clauses : List Clause) (heads : List Head) (r : Result (List Clause) PatternFault) → Answers (IsCompletion table sig clauses heads) r → ShowsNeeded table sig clauses heads r
answer_shows table sig clauses heads (Ok out) h = shown table sig clauses heads (Ok out) h
answer_shows table sig clauses heads (Err (Redundant i)) h = shown table sig clauses heads (Err (Redundant i)) h
answer_shows table sig clauses heads (Err (TooMany i)) h = shown table sig clauses heads (Err (TooMany i)) h
answer_shows table sig clauses heads (Err (NotPattern i j)) h = tt
answer_shows table sig clauses heads (Err (NonLinear i name)) h = tt
answer_shows table sig clauses heads (Err NoMemory) h = tt
