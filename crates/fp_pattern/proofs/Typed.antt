-- What a value has at the place where a pattern with a variable meets a constructor.
use Rattle.std.proofs.Common.{◌≡◌, ◌∙◌, ◌≤◌, ◌+◌, ◌-◌, ℕ, true, false, List, refl, sym, ap, arith}
use Rattle.std.specs.Prelude.{Option, Some, None}
use Rattle.std.proofs.lemmas.Option.{none-some, same_Some}
use Rattle.std.proofs.lemmas.Slice.Eq.{bytes_eq-Decides}
use Rattle.fp_term.specs.Types.{Typ}
use Rattle.fp_term.specs.Terms.{Tm, bound, free, constant, app, abs}
use Rattle.fp_term.specs.Variables.{is_among}
use Rattle.fp_term.specs.declared.signature.Signature.{Signature}
use Rattle.fp_term.proofs.Equal.{type_eq-decides}
use Rattle.fp_group.specs.declared.constructors.ConTable.{ConTable}
use Rattle.fp_pattern.specs.Patterns.{constructors, arrow}
use Rattle.fp_pattern.specs.Subtraction.{apart, any_apart, met, first_met}
use Rattle.fp_pattern.specs.Values.{Value, made, given_one, IsValue, deep, plain, built, HasArguments, all_given, and_given, AreValues, no_values, and_value, matches, all_match, IsPatternOf, a_variable, a_constructor, TakesPatterns, ended, one_taken, ArePatternsOf, no_patterns, and_pattern, depth_of, depths, has, IsLinear, AreLinear}
use Rattle.fp_pattern.proofs.Gaps.{first_cases}
use Rattle.fp_pattern.proofs.Matching.{and_parts, or_parts, not_true, part_at, part_in, or_value, part_none, head_name, value_name, is_spine, heads_match, heads_alike, no_atom, met_has, first_met_has, met_variable, met_no_variable, plain_term, all_plain, same_length}

-- one type has one argument and one result
pub same_arrow : (s a b c d : Typ) → arrow s ≡ Some (a, b) → arrow s ≡ Some (c, d) → (a ≡ c) × (b ≡ d)
same_arrow s a b c d e f =
    let p : ◌≡◌ {A = Typ × Typ} (a, b) (c, d) = same_Some _ _ (sym e ∙ f) in
    (ap (λ (z : Typ × Typ). z.0) p, ap (λ (z : Typ × Typ). z.1) p)

pub no_arrow : (s a b : Typ) (P : Type 0) → arrow s ≡ None → arrow s ≡ Some (a, b) → P
no_arrow s a b P e f = absurd (none-some _ (sym e ∙ f))

pub depth_positive : (p : Tm) → 1 ≤ depth_of p
depth_positive (app f x) = omega (arith, depth_positive f)
depth_positive (bound n) = omega arith
depth_positive (free x s) = omega arith
depth_positive (constant x s) = omega arith
depth_positive (abs s x) = omega arith

module _ (table : ConTable) (sig : Signature) where
  -- what a pattern of a constructor looks like
  takes_spine : (type : Typ) (head p : Tm) → TakesPatterns table sig type head p → is_spine head ≡ true → is_spine p ≡ true
  takes_spine _ _ _ (ended type head off) i = i
  takes_spine _ _ _ (one_taken type a b head x p is one more) i = takes_spine b (app head x) p more i

  takes_name : (type : Typ) (head p : Tm) → TakesPatterns table sig type head p → head_name p ≡ head_name head
  takes_name _ _ _ (ended type head off) = refl
  takes_name _ _ _ (one_taken type a b head x p is one more) = takes_name b (app head x) p more

  pub has_name : (d : ℕ) (type : Typ) (head v : Value) → HasArguments table sig d type head v → value_name v ≡ value_name head
  has_name _ _ _ _ (all_given d type head off) = refl
  has_name _ _ _ _ (and_given d type a b head w v is one more) = has_name d b (given_one head w) v more

  takes_depth : (type : Typ) (head p : Tm) → TakesPatterns table sig type head p → depth_of head ≤ depth_of p
  takes_depth _ _ _ (ended type head off) = omega arith
  takes_depth _ _ _ (one_taken type a b head x p is one more) = omega (arith, takes_depth b (app head x) p more)

  mutual
    pub typed_plain : (s : Typ) (p : Tm) → IsPatternOf table sig s p → plain_term p ≡ true
    typed_plain _ _ (a_variable s x) = refl
    typed_plain _ _ (a_constructor s con type p among of more) = takes_plain type (constant con type) p more refl

    takes_plain : (type : Typ) (head p : Tm) → TakesPatterns table sig type head p → plain_term head ≡ true → plain_term p ≡ true
    takes_plain _ _ _ (ended type head off) i = i
    takes_plain _ _ _ (one_taken type a b head x p is one more) i = takes_plain b (app head x) p more (rw (i, typed_plain a x one) refl)

  pub all_typed_plain : (ss : List Typ) (ps : List Tm) → ArePatternsOf table sig ss ps → all_plain ps ≡ true
  all_typed_plain _ _ no_patterns = refl
  all_typed_plain _ _ (and_pattern s ss p ps one more) = rw (typed_plain s p one, all_typed_plain ss ps more) refl

  pub typed_length : (ss : List Typ) (ps qs : List Tm) → ArePatternsOf table sig ss ps → ArePatternsOf table sig ss qs → same_length ps qs ≡ true
  typed_length _ _ _ no_patterns no_patterns = refl
  typed_length _ _ _ (and_pattern s ss p ps one more) (and_pattern _ _ q qs other others) = typed_length ss ps qs more others

  -- the part is a value, not an atom, of the variable's type
  pub record IsSplit (t : Typ) (o : Option Value) : Type 0 where
    pub d : ℕ
    pub w : Value
    pub con : List ℕ
    pub found : o ≡ Some w
    pub value : IsValue table sig (d + 1) t w
    pub some : is_among (constructors table t) con ≡ true

  first_part : (t : Typ) (o later : Option Value) → IsSplit t o → IsSplit t (or_value o later)
  first_part t o later h = record { d = h.d; w = h.w; con = h.con; found = rw h.found refl; value = h.value; some = h.some }

  later_part : (t : Typ) (o later : Option Value) → o ≡ None → IsSplit t later → IsSplit t (or_value o later)
  later_part t o later e h = rw e h

  module _ (x : List ℕ) (t : Typ) where
    part_here : (a : List ℕ) (s : Typ) (v : Value) → a ≡ x → s ≡ t → part_at x t (free a s) v ≡ Some v
    part_here a s v e f = rw ((bytes_eq-Decides x a).1 (sym e), (type_eq-decides t s).1 (sym f)) refl

    at_variable : (a : List ℕ) (s : Typ) (k : List ℕ) (q : Tm) (d : ℕ) (v : Value) → is_among (constructors table s) k ≡ true → IsValue table sig d s v → depth_of q ≤ d → met (free a s) q ≡ Some (x, t) → IsSplit t (part_at x t (free a s) v)
    at_variable a s k q d v some value le e =
        let p = met_variable a x s t q e in
        let n : (d - 1) + 1 ≡ d = omega (arith, depth_positive q) in
        record { d = d - 1; w = v; con = k; found = part_here a s v p.0 p.1; value = rw (n, ← p.1) value; some = rw (← p.1) some }

    mutual
      pub split_at :
          (s : Typ) (p q : Tm) (d : ℕ) (v : Value) → IsPatternOf table sig s p → IsPatternOf table sig s q → IsValue table sig d s v → depth_of q ≤ d →
          IsLinear p → matches p v ≡ true → apart p q ≡ false → met p q ≡ Some (x, t) → IsSplit t (part_at x t p v)
      split_at _ p _ d v one (a_variable s y) value le l m off e = absurd (none-some _ (sym (met_no_variable p y s) ∙ e))
      split_at _ _ _ d v (a_variable s a) (a_constructor _ k type q some of more) value le l m off e = at_variable a s k q d v some value le e
      split_at _ _ _ _ _ (a_constructor s con type p some of more) (a_constructor _ k type' q some' of' more') (deep _) le l m off e =
          let i = no_atom p (takes_spine type (constant con type) p more refl) in cc
      split_at _ _ _ _ _ (a_constructor s con type p some of more) (a_constructor _ k type' q some' of' more') (plain d _ none) le l m off e =
          let i = no_atom p (takes_spine type (constant con type) p more refl) in cc
      split_at _ _ _ _ _ (a_constructor s con type p some of more) (a_constructor _ k type' q some' of' more') (built d _ j type'' v some'' of'' more'') le l m off e =
          let i = takes_spine type (constant con type) p more refl in
          let i' = takes_spine type' (constant k type') q more' refl in
          let n : con ≡ k = sym (takes_name type (constant con type) p more) ∙ heads_alike p q i i' off ∙ takes_name type' (constant k type') q more' in
          let n' : con ≡ j = sym (takes_name type (constant con type) p more) ∙ heads_match p v i m ∙ has_name d type'' (made j) v more'' in
          let u : type' ≡ type = same_Some _ _ (sym of' ∙ rw (← n) of) in
          let u' : type'' ≡ type = same_Some _ _ (sym of'' ∙ rw (← n') of) in
          split_in_arguments d type (constant con type) p (constant k type) q (made j) v more (rw u at more') (rw u' at more'') le l m off e (λ _ _ _ f. absurd (none-some _ f))

      split_in_arguments :
          (d : ℕ) (type : Typ) (hp p hq q : Tm) (hv v : Value) → TakesPatterns table sig type hp p → TakesPatterns table sig type hq q → HasArguments table sig d type hv v →
          depth_of q ≤ d + 1 → IsLinear p → matches p v ≡ true → apart p q ≡ false → met p q ≡ Some (x, t) →
          (IsLinear hp → matches hp hv ≡ true → apart hp hq ≡ false → met hp hq ≡ Some (x, t) → IsSplit t (part_at x t hp hv)) → IsSplit t (part_at x t p v)
      split_in_arguments d _ _ _ _ _ _ _ (ended type hp off) (ended _ hq off') (all_given _ _ hv off'') le l m out e so_far = so_far l m out e
      split_in_arguments d _ _ _ _ _ _ _ (ended type hp off) (one_taken _ a b hq y q is one more) value le l m out e so_far = no_arrow type a b _ off is
      split_in_arguments d _ _ _ _ _ _ _ (ended type hp off) (ended _ hq off') (and_given _ _ a b hv w v is one more) le l m out e so_far = no_arrow type a b _ off is
      split_in_arguments d _ _ _ _ _ _ _ (one_taken type a b hp z p is one more) (ended _ hq off) value le l m out e so_far = no_arrow type a b _ off is
      split_in_arguments d _ _ _ _ _ _ _ (one_taken type a b hp z p is one more) (one_taken _ a' b' hq y q is' one' more') (all_given _ _ hv off) le l m out e so_far = no_arrow type a b _ off is
      split_in_arguments d _ _ _ _ _ _ _ (one_taken type a b hp z p is one more) (one_taken _ a' b' hq y q is' one' more') (and_given _ _ a'' b'' hv w v is'' one'' more'') le l m out e so_far =
          let u = same_arrow type a' b' a b is' is in
          let u' = same_arrow type a'' b'' a b is'' is in
          let lower : depth_of y ≤ d = omega (arith, takes_depth b' (app hq y) q more') in
          split_in_arguments d b (app hp z) p (app hq y) q (given_one hv w) v more (rw u.1 at more') (rw u'.1 at more'') le l m out e
          (λ l' m' out' e'.
          let n = and_parts (matches hp hv) (matches z w) m' in
          let o = or_parts (apart hp hq) (apart z y) out' in
          first_cases (met hp hq) (met z y) (x, t) _
          (λ g. first_part t (part_at x t hp hv) (part_at x t z w) (so_far l'.0 n.0 o.0 g))
          (λ g.
          let none = part_none x t hp hv (not_true (has x t hp) (λ h. l'.1.1 x t h (met_has x t z y g))) in
          later_part t (part_at x t hp hv) (part_at x t z w) none (split_at a z y d w one (rw u.0 at one') (rw u'.0 at one'') lower l'.1.0 n.1 o.1 g))
          e')

    pub split_in :
        (ss : List Typ) (ps qs : List Tm) (d : ℕ) (vs : List Value) → ArePatternsOf table sig ss ps → ArePatternsOf table sig ss qs → AreValues table sig d ss vs → depths qs ≤ d →
        AreLinear ps → all_match ps vs ≡ true → any_apart ps qs ≡ false → first_met ps qs ≡ Some (x, t) → IsSplit t (part_in x t ps vs)
    split_in _ _ _ d _ no_patterns no_patterns no_values le l m off e = absurd (none-some _ e)
    split_in _ _ _ d _ (and_pattern s ss p ps one more) (and_pattern _ _ q qs one' more') (and_value _ _ v vs one'' more'') le l m off e =
        let n = and_parts (matches p v) (all_match ps vs) m in
        let o = or_parts (apart p q) (any_apart ps qs) off in
        first_cases (met p q) (first_met ps qs) (x, t) _
        (λ g. first_part t (part_at x t p v) (part_in x t ps vs) (split_at s p q d v one one' one'' (omega arith) l.0 n.0 o.0 g))
        (λ g.
        let none = part_none x t p v (not_true (has x t p) (λ h. l.1.1 x t h (first_met_has x t ps qs g))) in
        later_part t (part_at x t p v) (part_in x t ps vs) none (split_in ss ps qs d vs more more' more'' (omega arith) l.1.0 n.1 o.1 g))
        e
