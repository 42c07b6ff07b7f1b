-- How many of the clauses that are left match a value.
use Rattle.std.proofs.Common.{◌≡◌, ◌∙◌, ◌≤◌, ◌+◌, ℕ, Bool, true, false, cond, ◌&&◌, ◌||◌, not, List, [], ◌∷◌, ◌++◌, refl, sym, ap, arith}
use Rattle.std.specs.Prelude.{Some}
use Rattle.std.specs.Str.{bytes_eq}
use Rattle.std.proofs.lemmas.Option.{none-some, same_Some}
use Rattle.std.proofs.lemmas.Slice.Eq.{bytes_eq-Decides}
use Rattle.fp_term.specs.Types.{Typ}
use Rattle.fp_term.specs.Terms.{Tm, free, constant, app}
use Rattle.fp_term.specs.Variables.{is_among}
use Rattle.fp_term.specs.declared.signature.Signature.{Signature}
use Rattle.fp_group.specs.declared.constructors.ConTable.{ConTable}
use Rattle.fp_group.specs.declared.clause.Clause.{Clause}
use Rattle.fp_pattern.specs.Patterns.{constructors, con_type}
use Rattle.fp_pattern.specs.Subtraction.{numbered, IsFilled, full, one_more, IsPart, AreParts, no_more, unfit, fit, IsMinus, none_common, all_covered, split, AreMinus, nothing, joined, IsLeft, whole, less, any_apart, first_met}
use Rattle.fp_pattern.specs.Values.{Value, made, given_one, IsValue, deep, plain, built, HasArguments, all_given, and_given, AreValues, matches, all_match, one_if, count_matching, one_matches, ArePatternsOf, depths, AreLinear, Differ, HasDistinct, IsFine, AreFine, AreSubtrahends}
use Rattle.fp_pattern.proofs.Matching.{and_true, and_first, not_true, by_cases, any_apart_both, all_covered_match, all_replaced_match, part_in, head_name, is_spine, heads_match}
use Rattle.fp_pattern.proofs.Typed.{same_arrow, no_arrow, split_in, all_typed_plain, typed_length, has_name}
use Rattle.fp_pattern.proofs.Fresh.{parts_fine}

filled_name : (f : List ℕ) (c : Clause) (head : Tm) (s : Typ) (u : Tm) → IsFilled f c head s u → head_name u ≡ head_name head
filled_name f c _ _ _ (full head s off) = refl
filled_name f c _ _ _ (one_more n head s a b u is first more) = filled_name f c (app head (free (numbered n) a)) b u more

filled_spine : (f : List ℕ) (c : Clause) (head : Tm) (s : Typ) (u : Tm) → IsFilled f c head s u → is_spine head ≡ true → is_spine u ≡ true
filled_spine f c _ _ _ (full head s off) i = i
filled_spine f c _ _ _ (one_more n head s a b u is first more) i = filled_spine f c (app head (free (numbered n) a)) b u more i

pub count_append : (cs ds : List Clause) (vs : List Value) → count_matching (cs ++ ds) vs ≡ count_matching cs vs + count_matching ds vs
count_append [] ds vs = omega arith
count_append (c ∷ cs) ds vs = omega (arith, count_append cs ds vs)

either_zero : (b : Bool) → cond {A = ℕ} b 0 0 ≡ 0
either_zero true = refl
either_zero false = refl

sum_left : (m n : Bool) (k : ℕ) → one_if (m && not n) + cond n 0 k ≡ cond n 0 (one_if m + k)
sum_left true true k = refl
sum_left true false k = refl
sum_left false true k = refl
sum_left false false k = refl

two_tests : (m n : Bool) (k : ℕ) → cond m 0 (cond n 0 k) ≡ cond (n || m) 0 k
two_tests true true k = refl
two_tests true false k = refl
two_tests false true k = refl
two_tests false false k = refl

one_left : (m n : Bool) → cond n 0 (one_if m) ≡ one_if (m && not n)
one_left true true = refl
one_left true false = refl
one_left false true = refl
one_left false false = refl

none_then : (b : Bool) (m n : ℕ) → b ≡ false → m ≡ cond b 1 0 → n ≡ 1 → n + m ≡ 1
none_then b m n e h k = let z : m ≡ 0 = rw e at h in omega arith

plus_none : (m n : ℕ) → m ≡ n → 0 + m ≡ n
plus_none m n e = omega arith

fine_append : (table : ConTable) (sig : Signature) (ss : List Typ) (cs ds : List Clause) → AreFine table sig ss cs → AreFine table sig ss ds → AreFine table sig ss (cs ++ ds)
fine_append table sig ss [] ds g h = h
fine_append table sig ss (c ∷ cs) ds g h = (g.0, fine_append table sig ss cs ds g.1 h)

module _ (table : ConTable) (sig : Signature) where
  -- a constructor with new variables matches the values that the constructor has
  filled_match : (f : List ℕ) (c : Clause) (head : Tm) (s : Typ) (u : Tm) (d : ℕ) (of v : Value) → IsFilled f c head s u → HasArguments table sig d s of v → matches u v ≡ matches head of
  filled_match f c _ _ _ d _ _ (full head s off) (all_given _ _ of off') = refl
  filled_match f c _ _ _ d _ _ (full head s off) (and_given _ _ a b of w v is one more) = no_arrow s a b _ off is
  filled_match f c _ _ _ d _ _ (one_more n head s a b u is first more) (all_given _ _ of off) = no_arrow s a b _ off is
  filled_match f c _ _ _ d _ _ (one_more n head s a b u is first more) (and_given _ _ a' b' of w v is' one more') =
      let e = (same_arrow s a' b' a b is' is).1 in
      filled_match f c (app head (free (numbered n) a)) b u d (given_one of w) v more (rw e at more') ∙ sym (and_true (matches head of))

  -- the constructor that the value is built from
  record IsBuiltBy (t : Typ) (v : Value) (con : List ℕ) : Type 0 where
    type : Typ
    typed : con_type sig t con ≡ Some type
    decides : (f : List ℕ) (c : Clause) (k : List ℕ) (at : Typ) (u : Tm) → con_type sig t k ≡ Some at → IsFilled f c (constant k at) at u → matches u v ≡ bytes_eq k con

  decided : (t : Typ) (d : ℕ) (con : List ℕ) (type : Typ) (v : Value) → con_type sig t con ≡ Some type → HasArguments table sig d type (made con) v → (f : List ℕ) (c : Clause) (k : List ℕ) (at : Typ) (u : Tm) → con_type sig t k ≡ Some at → IsFilled f c (constant k at) at u → matches u v ≡ bytes_eq k con
  decided t d con type v typed has f c k at u typed' filled =
      by_cases (bytes_eq k con) _
      (λ is.
      let e : k ≡ con = (bytes_eq-Decides k con).0 is in
      let same : at ≡ type = same_Some _ _ (sym typed' ∙ rw e typed) in
      filled_match f c (constant k at) at u d (made con) v filled (rw (← same) at has))
      (λ no.
      rw no
      (not_true (matches u v)
      (λ m.
      let n : k ≡ con = sym (filled_name f c (constant k at) at u filled) ∙ heads_match u v (filled_spine f c (constant k at) at u filled refl) m ∙ has_name table sig d type (made con) v has in
      let is : bytes_eq k con ≡ true = (bytes_eq-Decides k con).1 n in
      cc)))

  built_by : (t : Typ) (d : ℕ) (v : Value) (some : List ℕ) → 1 ≤ d → is_among (constructors table t) some ≡ true → IsValue table sig d t v → (con : List ℕ) × ((is_among (constructors table t) con ≡ true) × IsBuiltBy t v con)
  built_by _ _ _ some le among (deep t) = let no : ⊥ = omega arith in absurd no
  built_by _ _ _ some le among (plain d t none) = let no : false ≡ true = rw none at among in cc
  built_by _ _ _ some le among (built d t con type v is typed has) = (con, (is, record { type = type; typed = typed; decides = decided t d con type v typed has }))

  -- of the parts of a split, one matches what the clause matches
  module _ (f : List ℕ) (c : Clause) (x : List ℕ) (t : Typ) (linear : AreLinear c.patterns) (vs : List Value) where
    part_unmatched : all_match c.patterns vs ≡ false → (con : List ℕ) (part : Clause) → IsPart sig f c x t con part → all_match part.patterns vs ≡ false
    part_unmatched off con part is = rw is.is (all_replaced_match x t is.value c.patterns vs linear ∙ and_first _ _ off)

    parts_unmatched : all_match c.patterns vs ≡ false → (cons : List (List ℕ)) (parts : List Clause) → AreParts sig f c x t cons parts → count_matching parts vs ≡ 0
    parts_unmatched off _ _ no_more = refl
    parts_unmatched off _ _ (unfit con cons parts none more) = parts_unmatched off cons parts more
    parts_unmatched off _ _ (fit con cons part parts is more) = rw (part_unmatched off con part is) (omega (arith, parts_unmatched off cons parts more))

    module _ (on : all_match c.patterns vs ≡ true) (v : Value) (at : part_in x t c.patterns vs ≡ Some v) (con : List ℕ) (by : IsBuiltBy t v con) where
      part_matched : (k : List ℕ) (part : Clause) → IsPart sig f c x t k part → all_match part.patterns vs ≡ bytes_eq k con
      part_matched k part is = rw is.is (all_replaced_match x t is.value c.patterns vs linear ∙ rw (on, at) (by.decides f c k is.type is.value is.typed is.filled))

      parts_matched : (cons : List (List ℕ)) (parts : List Clause) → Differ cons → AreParts sig f c x t cons parts → count_matching parts vs ≡ cond (is_among cons con) 1 0
      parts_matched _ _ differ no_more = refl
      parts_matched _ _ differ (unfit k cons parts none more) =
          let other : bytes_eq k con ≡ false = not_true (bytes_eq k con) (λ is. let e : k ≡ con = (bytes_eq-Decides k con).0 is in none-some _ (sym (rw e at none) ∙ by.typed)) in
          rw other (parts_matched cons parts differ.1 more)
      parts_matched _ _ differ (fit k cons part parts is more) =
          by_cases (bytes_eq k con) _
          (λ same.
          let e : k ≡ con = (bytes_eq-Decides k con).0 same in
          rw (part_matched k part is, same) (none_then (is_among cons con) (count_matching parts vs) 1 (rw e at differ.0) (parts_matched cons parts differ.1 more) refl))
          (λ other. rw (part_matched k part is, other) (plus_none (count_matching parts vs) _ (parts_matched cons parts differ.1 more)))

  module _ (distinct : HasDistinct table) (f : List ℕ) (ss : List Typ) (d : ℕ) (vs : List Value) (values : AreValues table sig d ss vs) (q : List Tm) (typed : ArePatternsOf table sig ss q) (low : depths q ≤ d) where
    parts_count :
        (c : Clause) (x : List ℕ) (t : Typ) (parts : List Clause) → IsFine table sig ss c → any_apart c.patterns q ≡ false → first_met c.patterns q ≡ Some (x, t) →
        AreParts sig f c x t (constructors table t) parts → count_matching parts vs ≡ one_if (all_match c.patterns vs)
    parts_count c x t parts fine off e are =
        by_cases (all_match c.patterns vs) _
        (λ on.
        let s = split_in table sig x t ss c.patterns q d vs fine.typed typed values low fine.linear on off e in
        let b = built_by t (s.d + 1) s.w s.con (omega arith) s.some s.value in
        let n = parts_matched f c x t fine.linear vs on s.w s.found b.0 b.1.1 (constructors table t) parts (distinct.each t) are in
        rw on (n ∙ ap (λ (z : Bool). cond {A = ℕ} z 1 0) b.1.0))
        (λ no. rw no (parts_unmatched f c x t fine.linear vs no (constructors table t) parts are))

    mutual
      -- of what is left of a clause, one matches what the clause matches and the patterns don't
      pub minus_count : (c : Clause) (left : List Clause) → IsFine table sig ss c → IsMinus table sig f q c left → count_matching left vs ≡ one_if (all_match c.patterns vs && not (all_match q vs))
      minus_count _ _ fine (none_common c e) =
          by_cases (all_match c.patterns vs) _ (λ on. rw (on, any_apart_both c.patterns q vs e on) refl) (λ no. rw no refl)
      minus_count _ _ fine (all_covered c e m) =
          by_cases (all_match c.patterns vs) _
          (λ on. rw (on, all_covered_match c.patterns q vs (typed_length table sig ss c.patterns q fine.typed typed) e m (all_typed_plain table sig ss q typed) on) refl) (λ no. rw no refl)
      minus_count _ _ fine (split c x t parts left off e are more) =
          all_minus_count parts left (parts_fine table sig f ss c x t (constructors table t) parts (λ k h. h) fine are) more ∙
          rw (parts_count c x t parts fine off e are) (one_left (all_match c.patterns vs) (all_match q vs))

      pub all_minus_count : (cs left : List Clause) → AreFine table sig ss cs → AreMinus table sig f q cs left → count_matching left vs ≡ cond (all_match q vs) 0 (count_matching cs vs)
      all_minus_count _ _ fine nothing = sym (either_zero (all_match q vs))
      all_minus_count _ _ fine (joined c cs left others is more) =
          let i = minus_count c left fine.0 is in
          let j = all_minus_count cs others fine.1 more in
          count_append left others vs ∙ rw (i, j) (sum_left (all_match c.patterns vs) (all_match q vs) (count_matching cs vs))

  mutual
    pub minus_fine : (f : List ℕ) (ss : List Typ) (q : List Tm) (c : Clause) (left : List Clause) → IsFine table sig ss c → IsMinus table sig f q c left → AreFine table sig ss left
    minus_fine f ss q _ _ fine (none_common c e) = (fine, tt)
    minus_fine f ss q _ _ fine (all_covered c e m) = tt
    minus_fine f ss q _ _ fine (split c x t parts left off e are more) =
        all_minus_fine f ss q parts left (parts_fine table sig f ss c x t (constructors table t) parts (λ k h. h) fine are) more

    pub all_minus_fine : (f : List ℕ) (ss : List Typ) (q : List Tm) (cs left : List Clause) → AreFine table sig ss cs → AreMinus table sig f q cs left → AreFine table sig ss left
    all_minus_fine f ss q _ _ fine nothing = tt
    all_minus_fine f ss q _ _ fine (joined c cs left others is more) = fine_append table sig ss left others (minus_fine f ss q c left fine.0 is) (all_minus_fine f ss q cs others fine.1 more)

  -- of what is left in the end, as many match as of the clauses at the start, if no pattern list matches
  module _ (distinct : HasDistinct table) (f : List ℕ) (ss : List Typ) (d : ℕ) (vs : List Value) (values : AreValues table sig d ss vs) where
    pub left_count : (qs : List (List Tm)) (cs left : List Clause) → AreFine table sig ss cs → AreSubtrahends table sig ss d qs → IsLeft table sig f qs cs left → count_matching left vs ≡ cond (one_matches qs vs) 0 (count_matching cs vs)
    left_count _ _ _ fine are (whole cs) = refl
    left_count _ _ _ fine are (less q qs cs ds left minus more) =
        left_count qs ds left (all_minus_fine f ss q cs ds fine minus) are.1.1 more ∙
        rw (all_minus_count distinct f ss d vs values q are.0 are.1.0 cs ds fine minus) (two_tests (one_matches qs vs) (all_match q vs) (count_matching cs vs))
