-- A variable of a pattern gets the pairs that its term asks for.
use Rattle.std.proofs.Common.{◌≡◌, ◌∙◌, ℕ, ◌&&◌, List, [], ◌∷◌, ◌++◌, refl, sym}
use Rattle.std.specs.Prelude.{Option, Some, None}
use Rattle.std.specs.Option.{option_map}
use Rattle.std.specs.Bool.{Decides}
use Rattle.std.specs.Str.{bytes_eq}
use Rattle.std.proofs.lemmas.Option.{none-some, same_Some}
use Rattle.std.proofs.lemmas.Bool.Decides.{Decides-and}
use Rattle.std.proofs.lemmas.Slice.Eq.{bytes_eq-Decides}
use Rattle.fp_term.specs.Types.{Typ, type_eq, retyped}
use Rattle.fp_term.specs.Terms.{Tm, free, term_eq, found, or_else}
use Rattle.fp_term.specs.Typing.{type_under}
use Rattle.fp_term.proofs.Equal.{type_eq-decides, term_eq-decides}
use Rattle.fp_term.proofs.Choices.{chosen, chosen_alike}
use Rattle.fp_match.specs.declared.inst.Inst.{Inst}
use Rattle.fp_match.specs.Instances.{AreTyped, FirstTerms}
use Rattle.fp_match.specs.Walk.{matched_type, retyped_by, put_term, put_variable}
use Rattle.fp_match.proofs.Exact.{Exact, exact_none, exact_alike, exact_known, exact_then}
use Rattle.fp_match.proofs.TypePairs.{Pairs, TypesAgree, TypesStand, ExactTypes, types_agree_none, types_stand_none, types_stand_agree, matched_type_exact}

abbrev pub Triples : Type 0
Triples = List (List ℕ × Typ × Tm)

-- the term that the pairs give the variable
abbrev pub term_at : Triples → List ℕ → Typ → Tm
term_at all x u = or_else (found x u all) (free x u)

-- each pair has the term that all of them give its variable
pub TermsAgree : Triples → Triples → Type 0
TermsAgree all [] = Unit {0}
TermsAgree all (p ∷ ps) = (term_at all p.0 p.1 ≡ p.2) × TermsAgree all ps

first_agree : (all ps : Triples) → FirstTerms all ps → TermsAgree all ps
unfolding TermsAgree
first_agree all [] h = tt
first_agree all (p ∷ ps) h = (rw h.0 refl, first_agree all ps h.1)

agree_more : (all ps : Triples) (x : List ℕ) (u : Typ) (t : Tm) → TermsAgree all ps → term_at all x u ≡ t → TermsAgree all (ps ++ (x, u, t) ∷ [])
unfolding TermsAgree
agree_more all [] x u t g e = (e, tt)
agree_more all (p ∷ ps) x u t g e = (g.0, agree_more all ps x u t g.1 e)

agree_fewer : (all ps : Triples) (x : List ℕ) (u : Typ) (t : Tm) → TermsAgree all (ps ++ (x, u, t) ∷ []) → TermsAgree all ps × (term_at all x u ≡ t)
unfolding TermsAgree
agree_fewer all [] x u t g = (tt, g.0)
agree_fewer all (p ∷ ps) x u t g = let r = agree_fewer all ps x u t g.1 in ((g.0, r.0), r.1)

pub is_variable : (y : List ℕ) (s : Typ) (x : List ℕ) (u : Typ) → Decides (bytes_eq y x && type_eq s u) ((y ≡ x) × (s ≡ u))
is_variable y s x u = Decides-and _ _ (bytes_eq-Decides y x) (type_eq-decides s u)

agree_at : (all ps : Triples) (x : List ℕ) (u : Typ) (t : Tm) → TermsAgree all ps → found x u ps ≡ Some t → term_at all x u ≡ t
unfolding TermsAgree
agree_at all [] x u t g e = absurd (none-some t e)
agree_at all (p ∷ ps) x u t g e =
    chosen (bytes_eq p.0 x && type_eq p.1 u) _ _ _ (term_at all x u ≡ t)
    (λ is f. let same = (is_variable p.0 p.1 x u).0 is in rw (← same.0, ← same.1) (g.0 ∙ same_Some p.2 t f)) (λ _ f. agree_at all ps x u t g.1 f) e

found_more : (ps : Triples) (x : List ℕ) (u : Typ) (t : Tm) (y : List ℕ) (s : Typ) (v : Tm) → found y s ps ≡ Some v → found y s (ps ++ (x, u, t) ∷ []) ≡ Some v
found_more [] x u t y s v e = absurd (none-some v e)
found_more (p ∷ ps) x u t y s v e = chosen_alike (bytes_eq p.0 y && type_eq p.1 s) _ _ _ _ _ _ (λ _ f. f) (λ _ f. found_more ps x u t y s v f) e

-- a variable without a pair gets the new one
found_new : (ps : Triples) (x : List ℕ) (u : Typ) (t : Tm) → found x u ps ≡ None → found x u (ps ++ (x, u, t) ∷ []) ≡ Some t
found_new [] x u t e = rw ((is_variable x u x u).1 (refl, refl)) refl
found_new (p ∷ ps) x u t e = chosen_alike (bytes_eq p.0 x && type_eq p.1 u) _ _ _ _ _ _ (λ _ f. absurd (none-some p.2 (sym f))) (λ _ f. found_new ps x u t f) e

first_more : (old ps : Triples) (x : List ℕ) (u : Typ) (t : Tm) → FirstTerms old ps → found x u old ≡ None → FirstTerms (old ++ (x, u, t) ∷ []) (ps ++ (x, u, t) ∷ [])
first_more old [] x u t h e = (found_new old x u t e, tt)
first_more old (p ∷ ps) x u t h e = (found_more old x u t p.0 p.1 p.2 h.0, first_more old ps x u t h.1 e)

typed_more : (ps : Triples) (x : List ℕ) (u : Typ) (t : Tm) → AreTyped ps → type_under [] t ≡ Some u → AreTyped (ps ++ (x, u, t) ∷ [])
typed_more [] x u t h e = (e, tt)
typed_more (p ∷ ps) x u t h e = (h.0, typed_more ps x u t h.1 e)

pub typed_found : (ps : Triples) (x : List ℕ) (u : Typ) (v : Tm) → AreTyped ps → found x u ps ≡ Some v → type_under [] v ≡ Some u
typed_found [] x u v h e = absurd (none-some v e)
typed_found (p ∷ ps) x u v h e =
    chosen (bytes_eq p.0 x && type_eq p.1 u) _ _ _ (type_under [] v ≡ Some u)
    (λ is f. rw (← same_Some p.2 v f, ← ((is_variable p.0 p.1 x u).0 is).1) h.0) (λ _ f. typed_found ps x u v h.1 f) e

typed_or : (x : List ℕ) (u : Typ) (o : Option Tm) → ((v : Tm) → o ≡ Some v → type_under [] v ≡ Some u) → type_under [] (or_else o (free x u)) ≡ Some u
typed_or x u None h = refl
typed_or x u (Some v) h = h v refl

-- a variable's term has the variable's type
pub typed_at : (all : Triples) (x : List ℕ) (u : Typ) → AreTyped all → type_under [] (term_at all x u) ≡ Some u
typed_at all x u h = typed_or x u (found x u all) (λ v f. typed_found all x u v h f)

-- each pair has what the other instance gives its variable
pub record InstAgrees (all i : Inst) : Type 0 where
  pub types : TypesAgree all.types i.types
  pub terms : TermsAgree all.terms i.terms

-- each pair is the first for its name or its variable, and the terms have their types
pub record InstStands (i : Inst) : Type 0 where
  pub types : TypesStand i.types
  pub terms : FirstTerms i.terms i.terms
  pub typed : AreTyped i.terms

abbrev pub nothing : Inst
nothing = record { types = []; terms = [] }

pub nothing_agrees : (all : Inst) → InstAgrees all nothing
unfolding TermsAgree
nothing_agrees all = record { types = types_agree_none all.types; terms = tt }

pub nothing_stands : InstStands nothing
nothing_stands = record { types = types_stand_none; terms = tt; typed = tt }

pub stands_agree : (i : Inst) → InstStands i → InstAgrees i i
stands_agree i h = record { types = types_stand_agree i.types h.types; terms = first_agree i.terms i.terms h.terms }

-- a step that finds what makes the instance have the fact
abbrev pub ExactInst : Inst → Inst → Type 0 → Option Inst → Type 0
ExactInst all old E o = Exact (InstAgrees all) InstStands old E o

with_types : (all i : Inst) (E : Type 0) (o : Option Pairs) → ExactTypes all.types i.types E o → ExactInst all i E (option_map (λ types. record { types = types; terms = i.terms }) o)
with_types all i E None h = exact_none (InstAgrees all) InstStands i E (λ a e. let r = h.finds a.types e in none-some r.0 r.1)
with_types all i E (Some types) h = record {
  finds = λ a e.
      let r = h.finds a.types e in
      (record { types = types; terms = i.terms }, refl, record { types = rw (same_Some types r.0 r.1) r.2; terms = a.terms });
  back = λ new same a.
      let b : InstAgrees all (record { types = types; terms = i.terms }) = rw (same_Some _ new same) a in
      let r = h.back types refl b.types in
      (record { types = r.0; terms = b.terms }, r.1);
  keeps = λ new same k.
      rw (← same_Some _ new same) (record { types = h.keeps types refl k.types; terms = k.terms; typed = k.typed });
}

pub retyped_exact : (all i : Inst) (p t : Typ) → ExactInst all i (retyped all.types p ≡ t) (retyped_by i p t)
retyped_exact all i p t = with_types all i (retyped all.types p ≡ t) (matched_type i.types p t) (matched_type_exact all.types p t i.types)

put_exact : (all i : Inst) (x : List ℕ) (u : Typ) (t : Tm) (o : Option Tm) → found x u i.terms ≡ o → type_under [] t ≡ Some u → ExactInst all i (term_at all.terms x u ≡ t) (put_term o x u t i)
put_exact all i x u t None f typed = record {
  finds = λ a e. (
    record { types = i.types; terms = i.terms ++ (x, u, t) ∷ [] },
    refl,
    record { types = a.types; terms = agree_more all.terms i.terms x u t a.terms e },
  );
  back = λ new same a.
      let b : InstAgrees all (record { types = i.types; terms = i.terms ++ (x, u, t) ∷ [] }) = rw (same_Some _ new same) a in
      let r = agree_fewer all.terms i.terms x u t b.terms in
      (record { types = b.types; terms = r.0 }, r.1);
  keeps = λ new same k.
      rw (← same_Some _ new same)
      (record { types = k.types; terms = first_more i.terms i.terms x u t k.terms f; typed = typed_more i.terms x u t k.typed typed });
}
put_exact all i x u t (Some known) f typed =
    exact_known (InstAgrees all) InstStands i (known ≡ t) (term_at all.terms x u ≡ t) (term_eq known t) (term_eq-decides known t)
    (λ a e. sym (agree_at all.terms i.terms x u known a.terms f) ∙ e) (λ a e. agree_at all.terms i.terms x u known a.terms f ∙ e)

pub variable_exact : (all i : Inst) (x : List ℕ) (s : Typ) (t : Tm) (o : Option Typ) → type_under [] t ≡ o → AreTyped all.terms → ExactInst all i (term_at all.terms x (retyped all.types s) ≡ t) (put_variable o x s t i)
variable_exact all i x s t None f typed =
    exact_none (InstAgrees all) InstStands i _
    (λ _ e. let h = typed_at all.terms x (retyped all.types s) typed in none-some (retyped all.types s) (sym f ∙ rw e at h))
variable_exact all i x s t (Some u) f typed =
    exact_alike (InstAgrees all) InstStands i ((retyped all.types s ≡ u) × (term_at all.terms x u ≡ t)) _ _
    (λ q. rw q.0 q.1)
    (λ e. let h = typed_at all.terms x (retyped all.types s) typed in
    let same : retyped all.types s ≡ u = same_Some _ _ (sym (rw e at h) ∙ f) in (same, rw (← same) e))
    (exact_then (InstAgrees all) InstStands i (retyped all.types s ≡ u) (term_at all.terms x u ≡ t) (retyped_by i s u) _
    (retyped_exact all i s u) (λ known. put_exact all known x u t (found x u known.terms) refl f))
