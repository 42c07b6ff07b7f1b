-- The pairs that matching finds are of what the pattern has.
use Rattle.std.proofs.Common.{◌≡◌, ◌∙◌, ℕ, Bool, true, false, ◌||◌, List, [], ◌∷◌, ◌++◌, refl, sym, ap}
use Rattle.std.specs.Prelude.{Option, Some, None}
use Rattle.std.specs.Option.{option_map}
use Rattle.std.specs.Str.{bytes_eq}
use Rattle.std.proofs.lemmas.Option.{none-some, same_Some}
use Rattle.std.proofs.lemmas.Slice.Eq.{bytes_eq-Decides}
use Rattle.fp_term.specs.Types.{Typ, Typs, variable, applied, none, more, type_eq, found_type, retyped, bound_to, matched, all_matched}
use Rattle.fp_term.specs.Terms.{Tm, bound, free, constant, app, abs, term_eq, found, retyped_term}
use Rattle.fp_term.specs.Typing.{type_under}
use Rattle.fp_term.specs.Variables.{is_among, type_names, all_type_names, type_names_in}
use Rattle.fp_term.proofs.Choices.{chosen, followed}
use Rattle.fp_term.proofs.Search.{among_append}
use Rattle.fp_match.specs.declared.inst.Inst.{Inst}
use Rattle.fp_match.specs.Instances.{AreTyped, has_variable, AreTypeVariables, AreVariables, AreOwn, AreFirst}
use Rattle.fp_match.specs.Walk.{put_types, matched_type, retyped_by, put_term, put_variable, matched_term, is_number}
use Rattle.fp_match.proofs.TypePairs.{Pairs, types_stand_first}
use Rattle.fp_match.proofs.TermPairs.{Triples, term_at, is_variable, typed_at, InstAgrees, nothing, stands_agree, variable_exact}
use Rattle.fp_match.proofs.Matching.{matched_exact, found_stands}

either_true : (b c : Bool) → b ≡ true → (b || c) ≡ true
either_true true c e = refl
either_true false c e = cc

later_true : (b c : Bool) → c ≡ true → (b || c) ≡ true
later_true true c e = refl
later_true false c e = e

among_first : (xs ys : List (List ℕ)) (a : List ℕ) → is_among xs a ≡ true → is_among (xs ++ ys) a ≡ true
among_first xs ys a e = among_append xs ys a ∙ either_true (is_among xs a) (is_among ys a) e

among_second : (xs ys : List (List ℕ)) (a : List ℕ) → is_among ys a ≡ true → is_among (xs ++ ys) a ≡ true
among_second xs ys a e = among_append xs ys a ∙ later_true (is_among xs a) (is_among ys a) e

among_itself : (a : List ℕ) → is_among (a ∷ []) a ≡ true
among_itself a = either_true (bytes_eq a a) false ((bytes_eq-Decides a a).1 refl)

-- the names that pairs may have
module _ (P : List ℕ → Type 0) where
  abbrev Named : Pairs → Type 0
  Named [] = Unit {0}
  Named (q ∷ qs) = P q.0 × Named qs

  -- each of the names may be had
  abbrev Allowed : List (List ℕ) → Type 0
  Allowed names = (a : List ℕ) → is_among names a ≡ true → P a

  named_more : (qs : Pairs) (name : List ℕ) (t : Typ) → Named qs → P name → Named (qs ++ (name, t) ∷ [])
  named_more [] name t h k = (k, tt)
  named_more (q ∷ qs) name t h k = (h.0, named_more qs name t h.1 k)

  bound_named : (o : Option Typ) (name : List ℕ) (t : Typ) (old new : Pairs) → P name → Named old → bound_to o name t old ≡ Some new → Named new
  bound_named None name t old new k h e = rw (← same_Some _ new e) (named_more old name t h k)
  bound_named (Some known) name t old new k h e =
      chosen (type_eq known t) _ _ _ (Named new) (λ _ f. rw (← same_Some old new f) h) (λ _ f. absurd (none-some new f)) e

  put_named : (qs old new : Pairs) → Named qs → Named old → put_types old qs ≡ Some new → Named new
  put_named [] old new k h e = rw (← same_Some old new e) h
  put_named (q ∷ qs) old new k h e =
      followed (bound_to (found_type q.0 old) q.0 q.1 old) (λ known. put_types known qs) new (Named new)
      (λ known f g. put_named qs known new k.1 (bound_named (found_type q.0 old) q.0 q.1 old known k.0 h f) g) e

  mutual
    matched_named : (p t : Typ) (old new : Pairs) → Allowed (type_names p) → Named old → matched old p t ≡ Some new → Named new
    matched_named (variable a) t old new k h e = bound_named (found_type a old) a t old new (k a (among_itself a)) h e
    matched_named (applied name args) (variable a) old new k h e = absurd (none-some new e)
    matched_named (applied name args) (applied a types) old new k h e =
        chosen (bytes_eq name a) _ _ _ (Named new) (λ _ f. all_matched_named args types old new k h f) (λ _ f. absurd (none-some new f)) e

    all_matched_named : (ps ts : Typs) (old new : Pairs) → Allowed (all_type_names ps) → Named old → all_matched old ps ts ≡ Some new → Named new
    all_matched_named none none old new k h e = rw (← same_Some old new e) h
    all_matched_named none (more t ts) old new k h e = absurd (none-some new e)
    all_matched_named (more p ps) none old new k h e = absurd (none-some new e)
    all_matched_named (more p ps) (more t ts) old new k h e =
        followed (matched old p t) (λ known. all_matched known ps ts) new (Named new)
        (λ known f g.
        all_matched_named ps ts known new (λ a is. k a (among_second (type_names p) (all_type_names ps) a is))
        (matched_named p t old known (λ a is. k a (among_first (type_names p) (all_type_names ps) a is)) h f) g) e

  matched_type_named : (p t : Typ) (old new : Pairs) → Allowed (type_names p) → Named old → matched_type old p t ≡ Some new → Named new
  matched_type_named p t old new k h e =
      followed (matched [] p t) (put_types old) new (Named new) (λ qs f g. put_named qs old new (matched_named p t [] qs k tt f) h g) e

  -- and the variables that pairs may have
  module _ (Q : List ℕ → Typ → Type 0) where
    abbrev TermsNamed : Triples → Type 0
    TermsNamed [] = Unit {0}
    TermsNamed (q ∷ qs) = Q q.0 q.1 × TermsNamed qs

    terms_more : (qs : Triples) (x : List ℕ) (u : Typ) (t : Tm) → TermsNamed qs → Q x u → TermsNamed (qs ++ (x, u, t) ∷ [])
    terms_more [] x u t h k = (k, tt)
    terms_more (q ∷ qs) x u t h k = (h.0, terms_more qs x u t h.1 k)

    record InstNamed (i : Inst) : Type 0 where
      types : Named i.types
      terms : TermsNamed i.terms

    with_named : (o : Option Pairs) (i new : Inst) → ((qs : Pairs) → o ≡ Some qs → Named qs) → InstNamed i → option_map (λ types. record { types = types; terms = i.terms }) o ≡ Some new → InstNamed new
    with_named None i new k h e = absurd (none-some new e)
    with_named (Some qs) i new k h e = rw (← same_Some _ new e) (record { types = k qs refl; terms = h.terms })

    retyped_named : (p t : Typ) (i new : Inst) → Allowed (type_names p) → InstNamed i → retyped_by i p t ≡ Some new → InstNamed new
    retyped_named p t i new k h e = with_named (matched_type i.types p t) i new (λ qs f. matched_type_named p t i.types qs k h.types f) h e

    put_term_named : (o : Option Tm) (x : List ℕ) (u : Typ) (t : Tm) (i new : Inst) → Q x u → InstNamed i → put_term o x u t i ≡ Some new → InstNamed new
    put_term_named None x u t i new k h e = rw (← same_Some _ new e) (record { types = h.types; terms = terms_more i.terms x u t h.terms k })
    put_term_named (Some known) x u t i new k h e =
        chosen (term_eq known t) _ _ _ (InstNamed new) (λ _ f. rw (← same_Some i new f) h) (λ _ f. absurd (none-some new f)) e

    put_variable_named : (o : Option Typ) (x : List ℕ) (s : Typ) (t : Tm) (i new : Inst) → Allowed (type_names s) → ((u : Typ) → o ≡ Some u → Q x u) → InstNamed i → put_variable o x s t i ≡ Some new → InstNamed new
    put_variable_named None x s t i new k q h e = absurd (none-some new e)
    put_variable_named (Some u) x s t i new k q h e =
        followed (retyped_by i s u) (λ known. put_term (found x u known.terms) x u t known) new (InstNamed new)
        (λ known f g. put_term_named (found x u known.terms) x u t known new (q u refl) (retyped_named s u i known k h f) g) e

    -- the pattern's variables at the types that they have in the end may be had
    module _ (all : Inst) (typed : AreTyped all.terms) where
      abbrev AllowedTerms : Tm → Type 0
      AllowedTerms p = (x : List ℕ) (u : Typ) → has_variable x u (retyped_term all.types p) ≡ true → Q x u

      own_type : (x : List ℕ) (s u : Typ) (t : Tm) → term_at all.terms x (retyped all.types s) ≡ t → type_under [] t ≡ Some u → u ≡ retyped all.types s
      own_type x s u t e f = same_Some u (retyped all.types s) (sym f ∙ ap (type_under []) (sym e) ∙ typed_at all.terms x (retyped all.types s) typed)

      matched_term_named : (p t : Tm) (i new : Inst) → Allowed (type_names_in p) → AllowedTerms p → InstNamed i → InstAgrees all new → matched_term i p t ≡ Some new → InstNamed new
      matched_term_named (bound n) t i new k q h a e =
          chosen (is_number n t) _ _ _ (InstNamed new) (λ _ f. rw (← same_Some i new f) h) (λ _ f. absurd (none-some new f)) e
      matched_term_named (free x s) t i new k q h a e =
          let is = ((variable_exact all i x s t (type_under [] t) refl typed).back new e a).1 in
          put_variable_named (type_under [] t) x s t i new k
          (λ u f. q x u ((is_variable x (retyped all.types s) x u).1 (refl, sym (own_type x s u t is f)))) h e
      matched_term_named (constant a s) (constant b u) i new k q h g e =
          chosen (bytes_eq a b) _ _ _ (InstNamed new) (λ _ f. retyped_named s u i new k h f) (λ _ f. absurd (none-some new f)) e
      matched_term_named (constant a s) _ i new k q h g e = absurd (none-some new e)
      matched_term_named (app f x) (app g y) i new k q h a e =
          followed (matched_term i f g) (λ known. matched_term known x y) new (InstNamed new)
          (λ known m n.
          let mid = ((matched_exact all typed x y known).back new n a).0 in
          let made = matched_term_named f g i known (λ b is. k b (among_first (type_names_in f) (type_names_in x) b is)) (λ z u is. q z u (either_true _ _ is)) h mid m in
          matched_term_named x y known new (λ b is. k b (among_second (type_names_in f) (type_names_in x) b is)) (λ z u is. q z u (later_true _ _ is)) made a n) e
      matched_term_named (app f x) _ i new k q h a e = absurd (none-some new e)
      matched_term_named (abs s x) (abs u y) i new k q h a e =
          followed (retyped_by i s u) (λ known. matched_term known x y) new (InstNamed new)
          (λ known m n.
          let made = retyped_named s u i known (λ b is. k b (among_first (type_names s) (type_names_in x) b is)) h m in
          matched_term_named x y known new (λ b is. k b (among_second (type_names s) (type_names_in x) b is)) q made a n) e
      matched_term_named (abs s x) _ i new k q h a e = absurd (none-some new e)

are_type_variables : (p : Tm) (qs : Pairs) → Named (λ a. is_among (type_names_in p) a ≡ true) qs → AreTypeVariables p qs
are_type_variables p [] h = tt
are_type_variables p (q ∷ qs) h = (h.0, are_type_variables p qs h.1)

are_variables : (P : List ℕ → Type 0) (p : Tm) (qs : Triples) → TermsNamed P (λ x u. has_variable x u p ≡ true) qs → AreVariables p qs
are_variables P p [] h = tt
are_variables P p (q ∷ qs) h = (h.0, are_variables P p qs h.1)

pub matched_own : (p t : Tm) (new : Inst) → matched_term nothing p t ≡ Some new → AreOwn new.types new.terms p
matched_own p t new e =
    let stands = found_stands p t new e in
    let named = matched_term_named (λ a. is_among (type_names_in p) a ≡ true) (λ x u. has_variable x u (retyped_term new.types p) ≡ true) new stands.typed p t nothing new
    (λ a is. is) (λ x u is. is) (record { types = tt; terms = tt }) (stands_agree new stands) e in
    record { types_own = are_type_variables p new.types named.types; terms_own = are_variables (λ a. is_among (type_names_in p) a ≡ true) (retyped_term new.types p) new.terms named.terms }

pub matched_first : (p t : Tm) (new : Inst) → matched_term nothing p t ≡ Some new → AreFirst new.types new.terms
matched_first p t new e =
    let stands = found_stands p t new e in
    record { types_first = types_stand_first new.types stands.types; terms_first = stands.terms }
