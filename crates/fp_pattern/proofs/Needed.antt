-- What is left of a clause has values that match it.
use Rattle.std.proofs.Common.{◌≡◌, ◌≤◌, ◌+◌, ℕ, max, Bool, true, false, cond, ◌&&◌, List, [], ◌∷◌, ◌++◌, refl, arith, zero, suc}
use Rattle.std.specs.Prelude.{Option, Some, None, map}
use Rattle.std.specs.Str.{bytes_eq}
use Rattle.std.proofs.lemmas.Option.{none-some}
use Rattle.std.proofs.lemmas.Slice.Eq.{bytes_eq-Decides}
use Rattle.fp_term.specs.Types.{Typ, type_eq, type_size}
use Rattle.fp_pattern.proofs.ArrowTypes.{arrow_types}
use Rattle.fp_term.specs.Signatures.{IsType}
use Rattle.fp_term.specs.Terms.{Tm, bound, free, constant, app, abs, or_else, replaced}
use Rattle.fp_term.specs.declared.signature.Signature.{Signature}
use Rattle.fp_group.specs.declared.constructors.ConTable.{ConTable}
use Rattle.fp_group.specs.declared.clause.Clause.{Clause}
use Rattle.fp_pattern.specs.Patterns.{constructors, arrow}
use Rattle.fp_pattern.specs.Subtraction.{met, first_met, numbered, IsFilled, full, one_more, AreParts, no_more, unfit, fit, IsMinus, none_common, all_covered, split, AreMinus, nothing, joined, IsLeft, whole, less}
use Rattle.fp_pattern.specs.Values.{Value, atom, made, given_one, IsValue, deep, plain, built, HasArguments, all_given, and_given, AreValues, no_values, and_value, matches, all_match, one_if, count_matching, one_matches, IsPatternOf, a_variable, a_constructor, TakesPatterns, ended, one_taken, ArePatternsOf, no_patterns, and_pattern, depth_of, depths, has, any_has, IsLinear, AreLinear, HasDistinct, IsFine, AreFine, AreSubtrahends}
use Rattle.fp_pattern.specs.Witness.{AllTypes, HasSome, none_declared, one_gives, HasValues, levels, all_levels}
use Rattle.fp_pattern.proofs.Arrows.{arrow_smaller}
use Rattle.fp_pattern.proofs.Gaps.{first_cases}
use Rattle.fp_pattern.proofs.Matching.{and_parts, or_parts, not_true, plain_term, all_plain, met_has, first_met_has}
use Rattle.fp_pattern.proofs.Fresh.{parts_fine}
use Rattle.fp_pattern.proofs.Typed.{depth_positive, all_typed_plain}
use Rattle.fp_pattern.proofs.Origins.{counted_only}
use Rattle.fp_pattern.proofs.Count.{all_minus_fine, left_count}

same_match : (a : List ℕ) → bytes_eq a a ≡ true
same_match a = (bytes_eq-Decides a a).1 refl

module _ (table : ConTable) (sig : Signature) (inhabited : HasValues table sig) where
  -- a constructor has values where each type has
  arguments_exist :
      (d : ℕ) → ((s : Typ) → IsType sig s → (v : Value) × IsValue table sig d s v) → (n : ℕ) (type : Typ) (head : Value) → IsType sig type → type_size type ≤ n → (o : Option (Typ × Typ)) → arrow type ≡ o →
      (v : Value) × HasArguments table sig d type head v
  arguments_exist d each n type head is le None e = (head, all_given d type head e)
  arguments_exist d each zero type head is le (Some p) e = let lt = arrow_smaller type p.0 p.1 e in let no : ⊥ = omega (arith, lt) in absurd no
  arguments_exist d each (suc n) type head is le (Some p) e =
      let lt = arrow_smaller type p.0 p.1 e in
      let types = arrow_types sig type p.0 p.1 e is in
      let w = each p.0 types.0 in
      let r = arguments_exist d each n p.1 (given_one head w.0) types.1 (omega (arith, lt)) (arrow p.1) refl in
      (r.0, and_given d type p.0 p.1 head w.0 r.0 e w.1 r.1)

  one_level : (d : ℕ) (s : Typ) → IsType sig s → ((a : Typ) → IsType sig a → (v : Value) × IsValue table sig d a v) → HasSome table sig s → (v : Value) × IsValue table sig (suc d) s v
  one_level d s is each (none_declared e) = (atom, plain (suc d) s e)
  one_level d s is each (one_gives con type among typed) =
      let r = arguments_exist d each (type_size type) type (made con) (inhabited.keeps s con type is among typed) (omega arith) (arrow type) refl in
      let n : d + 1 ≡ suc d = omega arith in
      (r.0, rw (← n) (built d s con type r.0 among typed r.1))

  value_exists : (d : ℕ) (s : Typ) → IsType sig s → (v : Value) × IsValue table sig d s v
  value_exists zero s is = (atom, deep s)
  value_exists (suc d) s is = one_level d s is (value_exists d) (inhabited.each s is)

  takes_levels : (type : Typ) (head p : Tm) → TakesPatterns table sig type head p → levels head ≤ levels p
  takes_levels _ _ _ (ended type head off) = omega arith
  takes_levels _ _ _ (one_taken type a b head x p is one more) = omega (arith, takes_levels b (app head x) p more)

  -- a pattern no deeper than the values is matched by one
  mutual
    matched_exists : (s : Typ) (p : Tm) (d : ℕ) → IsType sig s → IsPatternOf table sig s p → levels p ≤ d → (v : Value) × (IsValue table sig d s v × (matches p v ≡ true))
    matched_exists _ _ d of_type (a_variable s x) le = let r = value_exists d s of_type in (r.0, (r.1, refl))
    matched_exists _ _ zero of_type (a_constructor s con type p among of more) le = let lt = takes_levels type (constant con type) p more in let no : ⊥ = omega (arith, lt) in absurd no
    matched_exists _ _ (suc d) of_type (a_constructor s con type p among of more) le =
        let r = matched_takes d type (constant con type) p (made con) (inhabited.keeps s con type of_type among of) more le (same_match con) in
        let n : d + 1 ≡ suc d = omega arith in
        (r.0, (rw (← n) (built d s con type r.0 among of r.1.0), r.1.1))

    matched_takes : (d : ℕ) (type : Typ) (head p : Tm) (hv : Value) → IsType sig type → TakesPatterns table sig type head p → levels p ≤ suc d → matches head hv ≡ true → (v : Value) × (HasArguments table sig d type hv v × (matches p v ≡ true))
    matched_takes d _ _ _ hv of_type (ended type head off) le on = (hv, (all_given d type hv off, on))
    matched_takes d _ _ _ hv of_type (one_taken type a b head x p is one more) le on =
        let lt = takes_levels b (app head x) p more in
        let types = arrow_types sig type a b is of_type in
        let w = matched_exists a x d types.0 one (omega (arith, lt)) in
        let r = matched_takes d b (app head x) p (given_one hv w.0) types.1 more le (rw (on, w.1.1) refl) in
        (r.0, (and_given d type a b hv w.0 r.0 is w.1.0 r.1.0, r.1.1))

  pub all_matched_exist : (ss : List Typ) (ps : List Tm) (d : ℕ) → AllTypes sig ss → ArePatternsOf table sig ss ps → all_levels ps ≤ d → (vs : List Value) × (AreValues table sig d ss vs × (all_match ps vs ≡ true))
  all_matched_exist _ _ d types no_patterns le = ([], (no_values, refl))
  all_matched_exist _ _ d types (and_pattern s ss p ps one more) le =
      let r = matched_exists s p d types.0 one (omega arith) in
      let t = all_matched_exist ss ps d types.1 more (omega arith) in
      (r.0 ∷ t.0, (and_value s ss r.0 t.0 r.1.0 t.1.0, rw (r.1.1, t.1.1) refl))

-- no split makes a clause deeper than what it is split by
module _ (x : List ℕ) (t : Typ) (u : Tm) (small : levels u ≤ 1) where
  put_absent : (p : Tm) → plain_term p ≡ true → has x t p ≡ false → replaced ((x, t, u) ∷ []) p ≡ p
  put_absent (free a s) k e = rw e refl
  put_absent (app f y) k e = let o = or_parts (has x t f) (has x t y) e in let l = and_parts (plain_term f) (plain_term y) k in rw (put_absent f l.0 o.0, put_absent y l.1 o.1) refl
  put_absent (bound n) k e = cc
  put_absent (constant a s) k e = refl
  put_absent (abs s y) k e = cc

  put_all_absent : (ps : List Tm) → all_plain ps ≡ true → any_has x t ps ≡ false → map (replaced ((x, t, u) ∷ [])) ps ≡ ps
  put_all_absent [] k e = refl
  put_all_absent (p ∷ ps) k e = let o = or_parts (has x t p) (any_has x t ps) e in let l = and_parts (plain_term p) (all_plain ps) k in rw (put_absent p l.0 o.0, put_all_absent ps l.1 o.1) refl

  chosen_levels : (b : Bool) (a : List ℕ) (s : Typ) → levels (or_else (cond {A = Option Tm} b (Some u) None) (free a s)) ≤ 1
  chosen_levels true a s = small
  chosen_levels false a s = omega arith

  put_levels : (p q : Tm) → plain_term p ≡ true → IsLinear p → met p q ≡ Some (x, t) → levels (replaced ((x, t, u) ∷ []) p) ≤ max (levels p) (depth_of q)
  put_levels (free a s) (constant b v) k l e = let c = chosen_levels (bytes_eq x a && type_eq t s) a s in omega (arith, c)
  put_levels (free a s) (app g z) k l e = let c = chosen_levels (bytes_eq x a && type_eq t s) a s in omega (arith, c, depth_positive (app g z))
  put_levels (app f y) (app g z) k l e =
      let i = and_parts (plain_term f) (plain_term y) k in
      first_cases (met f g) (met y z) (x, t) _
      (λ h.
      let same = put_absent y i.1 (not_true (has x t y) (λ m. l.1.1 x t (met_has x t f g h) m)) in
      rw same (omega (arith, put_levels f g i.0 l.0 h)))
      (λ h.
      let same = put_absent f i.0 (not_true (has x t f) (λ m. l.1.1 x t m (met_has x t y z h))) in
      rw same (omega (arith, put_levels y z i.1 l.1.0 h))) e
  put_levels _ _ k l e = absurd (none-some _ e)

  put_all_levels : (ps qs : List Tm) → all_plain ps ≡ true → AreLinear ps → first_met ps qs ≡ Some (x, t) → all_levels (map (replaced ((x, t, u) ∷ [])) ps) ≤ max (all_levels ps) (depths qs)
  put_all_levels (p ∷ ps) (q ∷ qs) k l e =
      let i = and_parts (plain_term p) (all_plain ps) k in
      first_cases (met p q) (first_met ps qs) (x, t) _
      (λ h.
      let same = put_all_absent ps i.1 (not_true (any_has x t ps) (λ m. l.1.1 x t (met_has x t p q h) m)) in
      rw same (omega (arith, put_levels p q i.0 l.0 h)))
      (λ h.
      let same = put_absent p i.0 (not_true (has x t p) (λ m. l.1.1 x t m (first_met_has x t ps qs h))) in
      rw same (omega (arith, put_all_levels ps qs i.1 l.1.0 h))) e
  put_all_levels _ _ k l e = absurd (none-some _ e)

filled_levels : (f : List ℕ) (c : Clause) (head : Tm) (s : Typ) (u : Tm) → IsFilled f c head s u → levels head ≤ 1 → levels u ≤ 1
filled_levels f c _ _ _ (full head s off) h = h
filled_levels f c _ _ _ (one_more n head s a b u is first more) h = filled_levels f c (app head (free (numbered n) a)) b u more (omega arith)

-- all clauses are at most so deep
abbrev pub AreLow : ℕ → List Clause → Type 0
AreLow d [] = Unit {0}
AreLow d (c ∷ cs) = (all_levels c.patterns ≤ d) × AreLow d cs

low_append : (d : ℕ) (cs ds : List Clause) → AreLow d cs → AreLow d ds → AreLow d (cs ++ ds)
low_append d [] ds g h = h
low_append d (c ∷ cs) ds g h = (g.0, low_append d cs ds g.1 h)

module _ (table : ConTable) (sig : Signature) (f : List ℕ) (ss : List Typ) (d : ℕ) where
  module _ (q : List Tm) (low : depths q ≤ d) where
    parts_low : (c : Clause) (x : List ℕ) (t : Typ) (cons : List (List ℕ)) (parts : List Clause) → IsFine table sig ss c → all_levels c.patterns ≤ d → first_met c.patterns q ≡ Some (x, t) → AreParts sig f c x t cons parts → AreLow d parts
    parts_low c x t _ _ fine le e no_more = tt
    parts_low c x t _ _ fine le e (unfit con cons parts off more) = parts_low c x t cons parts fine le e more
    parts_low c x t _ _ fine le e (fit con cons part parts is more) =
        let small = filled_levels f c (constant con is.type) is.type is.value is.filled (omega arith) in
        let h = put_all_levels x t is.value small c.patterns q (all_typed_plain table sig ss c.patterns fine.typed) fine.linear e in
        (rw is.is (omega (arith, h)), parts_low c x t cons parts fine le e more)

    mutual
      minus_low : (c : Clause) (left : List Clause) → IsFine table sig ss c → all_levels c.patterns ≤ d → IsMinus table sig f q c left → AreLow d left
      minus_low _ _ fine le (none_common c e) = (le, tt)
      minus_low _ _ fine le (all_covered c e m) = tt
      minus_low _ _ fine le (split c x t parts left off e are more) =
          all_minus_low parts left (parts_fine table sig f ss c x t (constructors table t) parts (λ k h. h) fine are) (parts_low c x t (constructors table t) parts fine le e are) more

      all_minus_low : (cs left : List Clause) → AreFine table sig ss cs → AreLow d cs → AreMinus table sig f q cs left → AreLow d left
      all_minus_low _ _ fine le nothing = tt
      all_minus_low _ _ fine le (joined c cs left others is more) = low_append d left others (minus_low c left fine.0 le.0 is) (all_minus_low cs others fine.1 le.1 more)

  left_low : (qs : List (List Tm)) (cs left : List Clause) → AreFine table sig ss cs → AreLow d cs → AreSubtrahends table sig ss d qs → IsLeft table sig f qs cs left → AreFine table sig ss left × AreLow d left
  left_low _ _ _ fine le are (whole cs) = (fine, le)
  left_low _ _ _ fine le are (less q qs cs ds left minus more) =
      left_low qs ds left (all_minus_fine table sig f ss q cs ds fine minus) (all_minus_low q are.1.0 cs ds fine le minus) are.1.1 more

  -- something that is left is matched by a value that the clause matches and no list of patterns does
  pub needed :
      HasDistinct table → HasValues table sig → AllTypes sig ss → (qs : List (List Tm)) (c first : Clause) (left : List Clause) → IsFine table sig ss c → all_levels c.patterns ≤ d → AreSubtrahends table sig ss d qs →
      IsLeft table sig f qs (c ∷ []) (first ∷ left) → (vs : List Value) × (AreValues table sig d ss vs × ((all_match c.patterns vs ≡ true) × (one_matches qs vs ≡ false)))
  needed distinct inhabited types qs c first left fine le are is =
      let g = left_low qs (c ∷ []) (first ∷ left) (fine, tt) (le, tt) are is in
      let r = all_matched_exist table sig inhabited ss first.patterns d types g.0.0.typed g.1.0 in
      let n = left_count table sig distinct f ss d r.0 r.1.0 qs (c ∷ []) (first ∷ left) (fine, tt) are is in
      let one : one_if (all_match first.patterns r.0) ≡ 1 = rw r.1.1 refl in
      let o = counted_only (one_matches qs r.0) (all_match c.patterns r.0) (count_matching (first ∷ left) r.0) n (omega arith) in
      (r.0, (r.1.0, (o.1, o.0)))
