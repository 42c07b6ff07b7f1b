-- Two instances of one pattern that are equal agree on what the pattern has.
use Rattle.std.proofs.Common.{◌≡◌, ◌∙◌, ℕ, Bool, true, false, cond, ◌&&◌, ◌||◌, List, [], ◌∷◌, ◌++◌, refl, sym, ap}
use Rattle.std.specs.Prelude.{Some, None}
use Rattle.std.specs.Str.{bytes_eq}
use Rattle.std.proofs.lemmas.Option.{same_Some}
use Rattle.std.proofs.lemmas.Slice.Eq.{bytes_eq-Decides}
use Rattle.fp_term.specs.Types.{Typ, Typs, variable, applied, none, more, found_type, retyped, all_retyped, type_eq}
use Rattle.fp_term.specs.Terms.{Tm, bound, free, constant, app, abs, found, replaced, retyped_term}
use Rattle.fp_term.specs.Typing.{type_under}
use Rattle.fp_term.specs.Variables.{is_among, type_names, all_type_names, type_names_in}
use Rattle.fp_term.proofs.Search.{among_append}
use Rattle.fp_match.specs.Instances.{AreTyped, IsInstanceBy, has_variable, AreTypeVariables, AreVariables, AreOwn}
use Rattle.fp_match.proofs.TypePairs.{Pairs, type_at}
use Rattle.fp_match.proofs.TermPairs.{Triples, term_at, is_variable, typed_at}

-- one of two tests holds
pub either : (b c : Bool) (P : Type 0) → (b ≡ true → P) → (c ≡ true → P) → (b || c) ≡ true → P
either true c P f h e = f refl
either false c P f h e = h e

-- a name is in the one list or in the other
pub among_either : (xs ys : List (List ℕ)) (a : List ℕ) (P : Type 0) → (is_among xs a ≡ true → P) → (is_among ys a ≡ true → P) → is_among (xs ++ ys) a ≡ true → P
among_either xs ys a P f h e = either (is_among xs a) (is_among ys a) P f h (sym (among_append xs ys a) ∙ e)

pub one_name : (b a : List ℕ) → (bytes_eq b a || false) ≡ true → b ≡ a
one_name b a e = either (bytes_eq b a) false (b ≡ a) (λ is. (bytes_eq-Decides b a).0 is) (λ no. cc) e

-- pairs that make a type the same type agree on its variables
module _ (i j : Pairs) where
  mutual
    type_agrees : (s : Typ) → retyped i s ≡ retyped j s → (a : List ℕ) → is_among (type_names s) a ≡ true → type_at i a ≡ type_at j a
    type_agrees (variable b) e a is = rw (one_name b a is) at e
    type_agrees (applied name args) e a is = let f : all_retyped i args ≡ all_retyped j args = cc in types_agree args f a is

    types_agree : (ss : Typs) → all_retyped i ss ≡ all_retyped j ss → (a : List ℕ) → is_among (all_type_names ss) a ≡ true → type_at i a ≡ type_at j a
    types_agree none e a is = cc
    types_agree (more s ss) e a is =
        let f : retyped i s ≡ retyped j s = cc in
        let g : all_retyped i ss ≡ all_retyped j ss = cc in
        among_either (type_names s) (all_type_names ss) a _ (type_agrees s f a) (types_agree ss g a) is

  -- pairs that agree on all type variables make each type and each term the same
  module _ (same : (a : List ℕ) → type_at i a ≡ type_at j a) where
    mutual
      same_type : (s : Typ) → retyped i s ≡ retyped j s
      same_type (variable a) = same a
      same_type (applied name args) = ap (applied name) (same_types args)

      same_types : (ss : Typs) → all_retyped i ss ≡ all_retyped j ss
      same_types none = refl
      same_types (more s ss) = rw (same_type s, same_types ss) refl

    pub same_retyped : (t : Tm) → retyped_term i t ≡ retyped_term j t
    same_retyped (bound n) = refl
    same_retyped (free a s) = ap (free a) (same_type s)
    same_retyped (constant a s) = ap (constant a) (same_type s)
    same_retyped (app f x) = rw (same_retyped f, same_retyped x) refl
    same_retyped (abs s x) = rw (same_type s, same_retyped x) refl

-- pairs of terms likewise
module _ (i j : Triples) where
  terms_agree : (t : Tm) → replaced i t ≡ replaced j t → (x : List ℕ) (u : Typ) → has_variable x u t ≡ true → term_at i x u ≡ term_at j x u
  terms_agree (bound n) e x u is = cc
  terms_agree (free a s) e x u is = let d = (is_variable a s x u).0 is in rw (d.0, d.1) at e
  terms_agree (constant a s) e x u is = cc
  terms_agree (app f y) e x u is =
      let h : replaced i f ≡ replaced j f = cc in
      let k : replaced i y ≡ replaced j y = cc in
      either (has_variable x u f) (has_variable x u y) _ (terms_agree f h x u) (terms_agree y k x u) is
  terms_agree (abs s y) e x u is = let k : replaced i y ≡ replaced j y = cc in terms_agree y k x u is

  same_replaced : ((x : List ℕ) (u : Typ) → term_at i x u ≡ term_at j x u) → (t : Tm) → replaced i t ≡ replaced j t
  same_replaced same (bound n) = refl
  same_replaced same (free a s) = same a s
  same_replaced same (constant a s) = refl
  same_replaced same (app f x) = rw (same_replaced same f, same_replaced same x) refl
  same_replaced same (abs s x) = ap (abs s) (same_replaced same x)

-- two instances that make a pattern the same term agree on its type variables
module _ (i j : Pairs) (ts us : Triples) (fit : AreTyped ts) (other : AreTyped us) where
  pattern_types : (p : Tm) → replaced ts (retyped_term i p) ≡ replaced us (retyped_term j p) → (a : List ℕ) → is_among (type_names_in p) a ≡ true → type_at i a ≡ type_at j a
  pattern_types (bound n) e a is = cc
  pattern_types (free x s) e a is =
      let same = same_Some _ _ (sym (typed_at ts x (retyped i s) fit) ∙ ap (type_under []) e ∙ typed_at us x (retyped j s) other) in
      type_agrees i j s same a is
  pattern_types (constant name s) e a is = let f : retyped i s ≡ retyped j s = cc in type_agrees i j s f a is
  pattern_types (app f x) e a is =
      let h : replaced ts (retyped_term i f) ≡ replaced us (retyped_term j f) = cc in
      let k : replaced ts (retyped_term i x) ≡ replaced us (retyped_term j x) = cc in
      among_either (type_names_in f) (type_names_in x) a _ (pattern_types f h a) (pattern_types x k a) is
  pattern_types (abs s x) e a is =
      let h : retyped i s ≡ retyped j s = cc in
      let k : replaced ts (retyped_term i x) ≡ replaced us (retyped_term j x) = cc in
      among_either (type_names s) (type_names_in x) a _ (type_agrees i j s h a) (pattern_types x k a) is

-- a name of which no pair is has none
no_type : (p : Tm) (i : Pairs) (a : List ℕ) → AreTypeVariables p i → is_among (type_names_in p) a ≡ false → found_type a i ≡ None
no_type p [] a h e = refl
no_type p (q ∷ i) a h e =
    elim (bytes_eq q.0 a) as (λ b. bytes_eq q.0 a ≡ b → cond b (Some q.1) (found_type a i) ≡ None)
    [ true ↦ (λ is. let g : is_among (type_names_in p) a ≡ true = rw (← (bytes_eq-Decides q.0 a).0 is) h.0 in cc) | false ↦ (λ _. no_type p i a h.1 e) ] refl

no_term : (t : Tm) (i : Triples) (x : List ℕ) (u : Typ) → AreVariables t i → has_variable x u t ≡ false → found x u i ≡ None
no_term t [] x u h e = refl
no_term t (q ∷ i) x u h e =
    elim (bytes_eq q.0 x && type_eq q.1 u) as (λ b. (bytes_eq q.0 x && type_eq q.1 u) ≡ b → cond b (Some q.2) (found x u i) ≡ None)
    [ true ↦ (λ is. let d = (is_variable q.0 q.1 x u).0 is in let g : has_variable x u t ≡ true = rw (← d.0, ← d.1) h.0 in cc) | false ↦ (λ _. no_term t i x u h.1 e) ] refl

by_test : (b : Bool) (P : Type 0) → (b ≡ true → P) → (b ≡ false → P) → P
by_test true P f g = f refl
by_test false P f g = g refl

-- two instances by pairs of the pattern alone that make it the same term make each term the same
module _ (p t : Tm) (i j : Pairs) (ts us : Triples) (first : IsInstanceBy i ts p t) (second : IsInstanceBy j us p t) where
  equal : replaced ts (retyped_term i p) ≡ replaced us (retyped_term j p)
  equal = first.equal ∙ sym second.equal

  -- they agree on the pattern's type variables, and on the variables that it then has
  pub unique_types : (a : List ℕ) → is_among (type_names_in p) a ≡ true → type_at i a ≡ type_at j a
  unique_types a is = pattern_types i j ts us first.fit second.fit p equal a is

  module _ (own : AreOwn i ts p) (other : AreOwn j us p) where
    all_types : (a : List ℕ) → type_at i a ≡ type_at j a
    all_types a =
        by_test (is_among (type_names_in p) a) _ (unique_types a)
        (λ no. rw (no_type p i a own.types_own no, no_type p j a other.types_own no) refl)

    same_pattern : retyped_term i p ≡ retyped_term j p
    same_pattern = same_retyped i j all_types p

    pub unique_terms : (x : List ℕ) (u : Typ) → has_variable x u (retyped_term i p) ≡ true → term_at ts x u ≡ term_at us x u
    unique_terms x u is = terms_agree ts us (retyped_term i p) (equal ∙ ap (replaced us) (sym same_pattern)) x u is

    all_terms : (x : List ℕ) (u : Typ) → term_at ts x u ≡ term_at us x u
    all_terms x u =
        by_test (has_variable x u (retyped_term i p)) _ (unique_terms x u)
        (λ no. rw (no_term (retyped_term i p) ts x u own.terms_own no, no_term (retyped_term j p) us x u other.terms_own (rw same_pattern at no)) refl)

    pub unique_instance : (v : Tm) → replaced ts (retyped_term i v) ≡ replaced us (retyped_term j v)
    unique_instance v = same_replaced ts us all_terms (retyped_term i v) ∙ ap (replaced us) (same_retyped i j all_types v)
