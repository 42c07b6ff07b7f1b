-- Matching finds an instance exactly where there is one.
use Rattle.std.proofs.Common.{◌≡◌, ◌∙◌, ℕ, List, [], ◌∷◌, ◌++◌, refl, sym}
use Rattle.std.specs.Prelude.{Option, Some, None}
use Rattle.std.specs.Str.{bytes_eq}
use Rattle.std.proofs.lemmas.Option.{none-some, same_Some}
use Rattle.std.proofs.lemmas.Slice.Eq.{bytes_eq-Decides}
use Rattle.fp_term.specs.Types.{Typ, Typs, variable, applied, none, more, type_eq, found_type, type_or, retyped, all_retyped, IsInstance, bound_to, matched, all_matched}
use Rattle.fp_term.proofs.Equal.{type_eq-decides}
use Rattle.fp_term.proofs.Choices.{chosen, chosen_alike, followed}

abbrev Pairs : Type 0
Pairs = List (List ℕ × Typ)

-- each name's pair stays
Extends : Pairs → Pairs → Type 0
Extends old new = (a : List ℕ) (t : Typ) → found_type a old ≡ Some t → found_type a new ≡ Some t

-- each pair has the type that stands for its name among all
Agrees : Pairs → Pairs → Type 0
Agrees [] all = Unit {0}
Agrees (p ∷ ps) all = (type_or (found_type p.0 all) (variable p.0) ≡ p.1) × Agrees ps all

agrees_more : (ps : Pairs) (name : List ℕ) (u : Typ) (all : Pairs) → Agrees ps all → type_or (found_type name all) (variable name) ≡ u → Agrees (ps ++ (name, u) ∷ []) all
unfolding Agrees
agrees_more [] name u all g e = (e, tt)
agrees_more (p ∷ ps) name u all g e = (g.0, agrees_more ps name u all g.1 e)

agrees_at : (ps : Pairs) (all : Pairs) (a : List ℕ) (t : Typ) → Agrees ps all → found_type a ps ≡ Some t → type_or (found_type a all) (variable a) ≡ t
unfolding Agrees
agrees_at [] all a t g e = absurd (none-some t e)
agrees_at (p ∷ ps) all a t g e =
    chosen (bytes_eq p.0 a) _ _ _ (type_or (found_type a all) (variable a) ≡ t)
    (λ is f. rw (← (bytes_eq-Decides p.0 a).0 is) (g.0 ∙ same_Some p.1 t f)) (λ _ f. agrees_at ps all a t g.1 f) e

found_more : (ps : Pairs) (name : List ℕ) (u : Typ) (a : List ℕ) (t : Typ) → found_type a ps ≡ Some t → found_type a (ps ++ (name, u) ∷ []) ≡ Some t
found_more [] name u a t e = absurd (none-some t e)
found_more (p ∷ ps) name u a t e = chosen_alike (bytes_eq p.0 a) _ _ _ _ _ _ (λ _ f. f) (λ _ f. found_more ps name u a t f) e

-- a name without a pair gets the new one
found_new : (ps : Pairs) (name : List ℕ) (u : Typ) → found_type name ps ≡ None → found_type name (ps ++ (name, u) ∷ []) ≡ Some u
found_new [] name u e = rw ((bytes_eq-Decides name name).1 refl) refl
found_new (p ∷ ps) name u e = chosen_alike (bytes_eq p.0 name) _ _ _ _ _ _ (λ _ f. absurd (none-some p.1 (sym f))) (λ _ f. found_new ps name u f) e

-- what one more pattern adds to the pairs, and what it says of all that extend them
record Fits (old new : Pairs) (p t : Typ) : Type 0 where
  extends : Extends old new
  equal : (all : Pairs) → Extends new all → retyped all p ≡ t

record AllFit (old new : Pairs) (ps ts : Typs) : Type 0 where
  extends : Extends old new
  equal : (all : Pairs) → Extends new all → all_retyped all ps ≡ ts

fits_variable : (a : List ℕ) (t : Typ) (old new : Pairs) (o : Option Typ) → found_type a old ≡ o → bound_to o a t old ≡ Some new → Fits old new (variable a) t
unfolding Extends
fits_variable a t old new None f e =
    let same = same_Some _ _ e in
    record {
      extends = λ b u g. rw (← same) (found_more old a t b u g);
      equal = λ all further. rw (further a t (rw (← same) (found_new old a t f))) refl;
    }
fits_variable a t old new (Some known) f e =
    chosen (type_eq known t) _ _ _ (Fits old new (variable a) t)
    (λ is g. let same = same_Some _ _ g in
    record {
      extends = λ b u h. rw (← same) h;
      equal = λ all further. rw (further a t (rw (← same, ← (type_eq-decides known t).0 is) f)) refl;
    })
    (λ _ g. absurd (none-some new g)) e

mutual
  unfolding Extends

  fits : (p t : Typ) (old new : Pairs) → matched old p t ≡ Some new → Fits old new p t
  fits (variable a) t old new e = fits_variable a t old new (found_type a old) refl e
  fits (applied name args) (variable a) old new e = absurd (none-some new e)
  fits (applied name args) (applied a types) old new e =
      chosen (bytes_eq name a) _ _ _ (Fits old new (applied name args) (applied a types))
      (λ is f. let r = all_fit args types old new f in
      record { extends = r.extends; equal = λ all further. rw ((bytes_eq-Decides name a).0 is, r.equal all further) refl })
      (λ _ f. absurd (none-some new f)) e

  all_fit : (ps ts : Typs) (old new : Pairs) → all_matched old ps ts ≡ Some new → AllFit old new ps ts
  all_fit none none old new e = let same = same_Some _ _ e in record { extends = λ b u g. rw (← same) g; equal = λ all further. refl }
  all_fit none (more t ts) old new e = absurd (none-some new e)
  all_fit (more p ps) none old new e = absurd (none-some new e)
  all_fit (more p ps) (more t ts) old new e =
      followed (matched old p t) _ new (AllFit old new (more p ps) (more t ts))
      (λ known f g. let first = fits p t old known f in
      let rest = all_fit ps ts known new g in
      record {
        extends = λ b u h. rest.extends b u (first.extends b u h);
        equal = λ all further. rw (first.equal all (λ b u h. further b u (rest.extends b u h)), rest.equal all further) refl;
      }) e

-- the pairs that are found where there is an instance
record Finds (o : Option Pairs) (all : Pairs) : Type 0 where
  pairs : Pairs
  found : o ≡ Some pairs
  agree : Agrees pairs all

finds_variable : (a : List ℕ) (t : Typ) (old all : Pairs) (o : Option Typ) → found_type a old ≡ o → Agrees old all → type_or (found_type a all) (variable a) ≡ t → Finds (bound_to o a t old) all
finds_variable a t old all None f g e = record { pairs = old ++ (a, t) ∷ []; found = refl; agree = agrees_more old a t all g e }
finds_variable a t old all (Some known) f g e =
    let same : known ≡ t = sym (agrees_at old all a known g f) ∙ e in
    record { pairs = old; found = rw ((type_eq-decides known t).1 same) refl; agree = g }

mutual
  finds : (p t : Typ) (old all : Pairs) → Agrees old all → retyped all p ≡ t → Finds (matched old p t) all
  finds (variable a) t old all g e = finds_variable a t old all (found_type a old) refl g e
  finds (applied name args) (variable a) old all g e = cc
  finds (applied name args) (applied a types) old all g e =
      let same : name ≡ a = cc in
      let rest : all_retyped all args ≡ types = cc in
      let r = finds_all args types old all g rest in
      record { pairs = r.pairs; found = rw ((bytes_eq-Decides name a).1 same) r.found; agree = r.agree }

  finds_all : (ps ts : Typs) (old all : Pairs) → Agrees old all → all_retyped all ps ≡ ts → Finds (all_matched old ps ts) all
  finds_all none none old all g e = record { pairs = old; found = refl; agree = g }
  finds_all none (more t ts) old all g e = cc
  finds_all (more p ps) none old all g e = cc
  finds_all (more p ps) (more t ts) old all g e =
      let first : retyped all p ≡ t = cc in
      let rest : all_retyped all ps ≡ ts = cc in
      let r = finds p t old all g first in
      let s = finds_all ps ts r.pairs all r.agree rest in
      record { pairs = s.pairs; found = rw r.found s.found; agree = s.agree }

pub matched_instance : (p t : Typ) (pairs : Pairs) → matched [] p t ≡ Some pairs → retyped pairs p ≡ t
unfolding Extends
matched_instance p t pairs e = (fits p t [] pairs e).equal pairs (λ a u f. f)

pub unmatched : (p t : Typ) → matched [] p t ≡ None → IsInstance p t → ⊥
unfolding Agrees
unmatched p t e i = let r = finds p t [] i.pairs tt i.equal in none-some r.pairs (sym e ∙ r.found)

pub instance_matched : (p t : Typ) → IsInstance p t → (pairs : Pairs) × (matched [] p t ≡ Some pairs)
unfolding Agrees
instance_matched p t i = let r = finds p t [] i.pairs tt i.equal in (r.pairs, r.found)
