-- A pattern that is well typed over the signature is a pattern of its type.
use Rattle.std.proofs.Common.{◌≡◌, ◌∙◌, ℕ, Bool, true, false, cond, ◌&&◌, not, List, [], ◌∷◌, ◌++◌, refl, sym, ap}
use Rattle.std.specs.Prelude.{Option, Some, None, is_some}
use Rattle.std.specs.Str.{bytes_eq}
use Rattle.std.proofs.lemmas.Option.{none-some, same_Some}
use Rattle.std.proofs.lemmas.Slice.Eq.{bytes_eq-Decides}
use Rattle.fp_term.specs.Names.{function}
use Rattle.fp_term.specs.Types.{Typ, Typs, variable, applied, none, more, type_eq, retyped, all_retyped}
use Rattle.fp_term.specs.Terms.{Tm, bound, free, constant, app, abs}
use Rattle.fp_term.specs.Typing.{type_under, type_of_app, bind}
use Rattle.fp_term.specs.Variables.{is_among, type_names, all_type_names}
use Rattle.fp_term.specs.Signatures.{IsConstant, IsOver, IsWellTyped}
use Rattle.fp_term.specs.declared.signature.Signature.{Signature}
use Rattle.fp_term.proofs.Equal.{type_eq-decides}
use Rattle.fp_term.proofs.Search.{among_append}
use Rattle.fp_term.proofs.Instances.{matched_instance, instance_matched}
use Rattle.fp_group.specs.declared.constructors.ConTable.{ConTable}
use Rattle.fp_pattern.specs.Patterns.{constructors, is_listed, arrow, outcome, con_type, given, after_pattern, is_variable, has_all, is_whole, spine, is_pattern}
use Rattle.fp_pattern.specs.Values.{IsPatternOf, a_variable, a_constructor, TakesPatterns, ended, one_taken, ArePatternsOf, no_patterns, and_pattern}
use Rattle.fp_pattern.specs.Conditions.{HasConstructors, AreWellTyped, no_terms, and_term}
use Rattle.fp_pattern.proofs.Matching.{by_cases, or_cases, or_true}
use Rattle.fp_pattern.proofs.Fresh.{both_ways}
use Rattle.fp_pattern.proofs.Arrows.{outcome_arrow, outcome_none}

true_before : (xs ys : List (List ℕ)) (a : List ℕ) → is_among xs a ≡ true → is_among (xs ++ ys) a ≡ true
true_before xs ys a e = among_append xs ys a ∙ rw e refl

true_after : (xs ys : List (List ℕ)) (a : List ℕ) → is_among ys a ≡ true → is_among (xs ++ ys) a ≡ true
true_after xs ys a e = among_append xs ys a ∙ rw e (or_true (is_among xs a))

-- pairs that make a list of types the same agree on its variables, and make a type of these variables the same
module _ (i j : List (List ℕ × Typ)) where
  Same : List ℕ → Type 0
  Same a = retyped i (variable a) ≡ retyped j (variable a)

  mutual
    unfolding Same

    agree : (s : Typ) → retyped i s ≡ retyped j s → (a : List ℕ) → is_among (type_names s) a ≡ true → Same a
    agree (variable b) e a is = or_cases (bytes_eq b a) false _ (λ h. rw (← (bytes_eq-Decides b a).0 h) e) (λ no. cc) is
    agree (applied name args) e a is = let f : all_retyped i args ≡ all_retyped j args = cc in all_agree args f a is

    all_agree : (ss : Typs) → all_retyped i ss ≡ all_retyped j ss → (a : List ℕ) → is_among (all_type_names ss) a ≡ true → Same a
    all_agree none e a is = cc
    all_agree (more s ss) e a is =
        let f : retyped i s ≡ retyped j s = cc in
        let g : all_retyped i ss ≡ all_retyped j ss = cc in
        or_cases (is_among (type_names s) a) (is_among (all_type_names ss) a) _ (agree s f a) (all_agree ss g a) (sym (among_append (type_names s) (all_type_names ss) a) ∙ is)

  mutual
    unfolding Same

    same_on : (s : Typ) → ((a : List ℕ) → is_among (type_names s) a ≡ true → Same a) → retyped i s ≡ retyped j s
    same_on (variable a) h = h a (rw ((bytes_eq-Decides a a).1 refl) refl)
    same_on (applied name args) h = ap (applied name) (all_same_on args h)

    all_same_on : (ss : Typs) → ((a : List ℕ) → is_among (all_type_names ss) a ≡ true → Same a) → all_retyped i ss ≡ all_retyped j ss
    all_same_on none h = refl
    all_same_on (more s ss) h =
        rw (same_on s (λ a is. h a (true_before (type_names s) (all_type_names ss) a is)), all_same_on ss (λ a is. h a (true_after (type_names s) (all_type_names ss) a is))) refl

-- no other type is that of functions
not_function : (b : Bool) (n name : List ℕ) (ts args : Typs) (x : Typ) → bytes_eq n function ≡ true → applied n ts ≡ applied name args → bytes_eq name function ≡ false → ⊥
not_function b n name ts args x is e other = let same : n ≡ name = cc in both_ways (bytes_eq name function) (rw same at is) other

outcome_retyped : (p : List (List ℕ × Typ)) (t : Typ) (name : List ℕ) (args : Typs) → outcome t ≡ applied name args → bytes_eq name function ≡ false → outcome (retyped p t) ≡ retyped p (applied name args)
outcome_retyped p (variable a) name args e other = cc
outcome_retyped p (applied n none) name args e other =
    by_cases (bytes_eq n function) _ (λ is. absurd (not_function true n name none args (applied n none) is (rw is at e) other)) (λ off. rw off (ap (retyped p) (rw off at e)))
outcome_retyped p (applied n (more from none)) name args e other =
    by_cases (bytes_eq n function) _ (λ is. absurd (not_function true n name (more from none) args (applied n none) is (rw is at e) other)) (λ off. rw off (ap (retyped p) (rw off at e)))
outcome_retyped p (applied n (more from (more to none))) name args e other =
    by_cases (bytes_eq n function) _ (λ is. rw is (outcome_retyped p to name args (rw is at e) other)) (λ off. rw off (ap (retyped p) (rw off at e)))
outcome_retyped p (applied n (more from (more to (more next rest)))) name args e other =
    by_cases (bytes_eq n function) _
    (λ is. absurd (not_function true n name (more from (more to (more next rest))) args (applied n none) is (rw is at e) other)) (λ off. rw off (ap (retyped p) (rw off at e)))

-- the type of an application
chosen_app : (b c : Bool) (to z : Typ) → cond {A = Option Typ} (b && c) (Some to) None ≡ Some z → (b ≡ true) × ((c ≡ true) × (to ≡ z))
chosen_app true true to z e = (refl, (refl, same_Some _ _ e))
chosen_app true false to z e = absurd (none-some _ e)
chosen_app false c to z e = absurd (none-some _ e)

app_arrow : (s t z : Typ) → type_of_app s t ≡ Some z → arrow s ≡ Some (t, z)
app_arrow (variable name) t z e = absurd (none-some _ e)
app_arrow (applied name none) t z e = absurd (none-some _ e)
app_arrow (applied name (more from none)) t z e = absurd (none-some _ e)
app_arrow (applied name (more from (more to none))) t z e =
    let h = chosen_app (bytes_eq name function) (type_eq from t) to z e in
    rw (h.0, (type_eq-decides from t).0 h.1.0, h.1.1) refl
app_arrow (applied name (more from (more to (more other rest)))) t z e = absurd (none-some _ e)

bound_some : (o : Option Typ) (next : Typ → Option Typ) (z : Typ) (P : Type 0) → ((s : Typ) → o ≡ Some s → next s ≡ Some z → P) → bind o next ≡ Some z → P
bound_some None next z P f e = absurd (none-some _ e)
bound_some (Some s) next z P f e = f s refl e

after_some : (o : Option Typ) (whole : Bool) (z : Typ) (P : Type 0) → ((s : Typ) → o ≡ Some s → whole ≡ true → given (arrow s) ≡ Some z → P) → after_pattern o whole ≡ Some z → P
after_some None whole z P f e = absurd (none-some _ e)
after_some (Some s) true z P f e = f s refl refl e
after_some (Some s) false z P f e = absurd (none-some _ e)

no_more_arrow : (s : Typ) → not (is_some (arrow s)) ≡ true → arrow s ≡ None
no_more_arrow s e = go (arrow s) e
  where
    go : (o : Option (Typ × Typ)) → not (is_some o) ≡ true → o ≡ None
    go None e = refl
    go (Some p) e = cc

-- each of the terms is a pattern
abbrev pub ArePatterns : ConTable → List Tm → Type 0
ArePatterns table [] = Unit {0}
ArePatterns table (p ∷ ps) = (is_pattern table p ≡ true) × ArePatterns table ps

module _ (table : ConTable) (sig : Signature) (have : HasConstructors table sig) where
  -- the type at which a constructor stands is that for its outcome
  type_stands : (con : List ℕ) (at : Typ) → is_listed table.types con ≡ true → IsConstant sig con at → (con_type sig (outcome at) con ≡ Some at) × (is_among (constructors table (outcome at)) con ≡ true)
  type_stands con at known is =
      let k = have.each con known in
      let same : is.declared ≡ k.declared = same_Some _ _ (sym is.found ∙ k.found) in
      let equal : retyped is.instance.pairs k.declared ≡ at = rw (← same) is.instance.equal in
      let out : outcome at ≡ retyped is.instance.pairs (applied k.name k.args) = rw (← equal) (outcome_retyped is.instance.pairs k.declared k.name k.args k.ends k.other) in
      let m = instance_matched (applied k.name k.args) (outcome at) (record { pairs = is.instance.pairs; equal = sym out }) in
      let back : retyped m.0 (applied k.name k.args) ≡ retyped is.instance.pairs (applied k.name k.args) = matched_instance (applied k.name k.args) (outcome at) m.0 m.1 ∙ out in
      let all : retyped m.0 k.declared ≡ at = same_on m.0 is.instance.pairs k.declared (λ a among. agree m.0 is.instance.pairs (applied k.name k.args) back a (k.covers a among)) ∙ equal in
      let typed : con_type sig (outcome at) con ≡ Some at = rw (k.found, k.ends, m.1, all) refl in
      (typed, rw out k.among)

  record IsSpineOf (p : Tm) (r : Typ) : Type 0 where
    con : List ℕ
    at : Typ
    known : is_listed table.types con ≡ true
    stands : IsConstant sig con at
    ends : outcome r ≡ outcome at
    takes : (q : Tm) → TakesPatterns table sig r p q → TakesPatterns table sig at (constant con at) q

  whole_pattern : (p : Tm) (s : Typ) → ((r : Typ) → spine table p ≡ Some r → type_under [] p ≡ Some s → IsSpineOf p r × (r ≡ s)) → is_variable p ≡ false → has_all (spine table p) ≡ true → type_under [] p ≡ Some s → IsPatternOf table sig s p
  whole_pattern p s f solid all typed =
      by_spine (spine table p) refl all
    where
      by_spine : (o : Option Typ) → spine table p ≡ o → has_all o ≡ true → IsPatternOf table sig s p
      by_spine None e all = cc
      by_spine (Some r) e all =
          let g = f r e typed in
          let end = no_more_arrow r all in
          let out : outcome g.0.at ≡ s = sym g.0.ends ∙ outcome_none r end ∙ g.1 in
          let t = type_stands g.0.con g.0.at g.0.known g.0.stands in
          rw (← out) (a_constructor (outcome g.0.at) g.0.con g.0.at p t.1 t.0 (g.0.takes p (ended r p end)))

  listed_some : (b : Bool) (s r : Typ) → cond {A = Option Typ} b (Some s) None ≡ Some r → (b ≡ true) × (s ≡ r)
  listed_some true s r e = (refl, same_Some _ _ e)
  listed_some false s r e = absurd (none-some _ e)

  given_some : (s a z r : Typ) → arrow s ≡ Some (a, z) → given (arrow s) ≡ Some r → z ≡ r
  given_some s a z r e g = same_Some _ _ (rw e at g)

  pattern_from : (p : Tm) (s : Typ) → ((r : Typ) → spine table p ≡ Some r → type_under [] p ≡ Some s → IsSpineOf p r × (r ≡ s)) → is_whole p (spine table p) ≡ true → type_under [] p ≡ Some s → IsPatternOf table sig s p
  pattern_from (free x t) s f whole typed = let same : t ≡ s = same_Some _ _ typed in rw same (a_variable s x)
  pattern_from (constant con at) s f whole typed = whole_pattern (constant con at) s f refl whole typed
  pattern_from (app g x) s f whole typed = whole_pattern (app g x) s f refl whole typed
  pattern_from (bound n) s f whole typed = cc
  pattern_from (abs t x) s f whole typed = cc

  spine_of : (p : Tm) (s r : Typ) → IsOver sig p → spine table p ≡ Some r → type_under [] p ≡ Some s → IsSpineOf p r × (r ≡ s)
  spine_of (constant con at) s r over e typed =
      let l = listed_some (is_listed table.types con) at r e in
      let same : at ≡ s = same_Some _ _ typed in
      (rw (← l.1) (record { con = con; at = at; known = l.0; stands = over.0; ends = refl; takes = λ q h. h }), sym l.1 ∙ same)
  spine_of (app f x) s r over e typed =
      bound_some (type_under [] f) (λ t. bind (type_under [] x) (type_of_app t)) s _
      (λ tf ef more.
      bound_some (type_under [] x) (type_of_app tf) s _
      (λ tx ex app_is.
      after_some (spine table f) (is_whole x (spine table x)) r _
      (λ t et whole give.
      let g = spine_of f tf t over.0 et ef in
      let arrows : arrow t ≡ Some (tx, s) = rw g.1 (app_arrow tf tx s app_is) in
      let same : s ≡ r = given_some t tx s r arrows give in
      let one = pattern_from x tx (λ u eu hu. spine_of x tx u over.1 eu hu) whole ex in (
        rw (← same)
            (record {
              con = g.0.con;
              at = g.0.at;
              known = g.0.known;
              stands = g.0.stands;
              ends = outcome_arrow t tx s arrows ∙ g.0.ends;
              takes = λ q h. g.0.takes q (one_taken t tx s f x q arrows one h);
            }),
        sym same,
      ))
      e)
      more)
      typed
  spine_of (bound n) s r over e typed = absurd (none-some _ e)
  spine_of (free x t) s r over e typed = absurd (none-some _ e)
  spine_of (abs t x) s r over e typed = absurd (none-some _ e)

  pub typed_pattern : (p : Tm) (s : Typ) → is_pattern table p ≡ true → IsWellTyped sig p s → IsPatternOf table sig s p
  typed_pattern p s whole h = pattern_from p s (λ u eu hu. spine_of p s u h.over eu hu) whole h.typed

  pub typed_patterns : (ss : List Typ) (ps : List Tm) → ArePatterns table ps → AreWellTyped sig ss ps → ArePatternsOf table sig ss ps
  typed_patterns _ _ are no_terms = no_patterns
  typed_patterns _ _ are (and_term s ss p ps one others) = and_pattern s ss p ps (typed_pattern p s are.0 one) (typed_patterns ss ps are.1 others)
