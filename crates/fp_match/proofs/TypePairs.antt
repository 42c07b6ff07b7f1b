-- Matching of types adds the pairs that an instance has to agree with, and no more.
use Rattle.std.proofs.Common.{◌≡◌, ◌∙◌, ℕ, List, [], ◌∷◌, ◌++◌, refl, sym}
use Rattle.std.specs.Prelude.{Option, Some, None}
use Rattle.std.specs.Option.{option_and_then}
use Rattle.std.specs.Str.{bytes_eq}
use Rattle.std.proofs.lemmas.Option.{none-some, same_Some}
use Rattle.std.proofs.lemmas.Slice.Eq.{bytes_eq-Decides}
use Rattle.fp_term.specs.Types.{Typ, Typs, variable, applied, none, more, type_eq, found_type, type_or, retyped, all_retyped, bound_to, matched, all_matched}
use Rattle.fp_term.proofs.Equal.{type_eq-decides}
use Rattle.fp_term.proofs.Choices.{chosen, chosen_alike}
use Rattle.fp_match.specs.Instances.{FirstTypes}
use Rattle.fp_match.specs.Walk.{put_types, matched_type}
use Rattle.fp_match.proofs.Exact.{Exact, exact_some, exact_none, exact_alike, exact_if, exact_known, exact_then}

abbrev pub Pairs : Type 0
Pairs = List (List ℕ × Typ)

-- the type that the pairs give the name
abbrev pub type_at : Pairs → List ℕ → Typ
type_at all a = type_or (found_type a all) (variable a)

-- each pair has the type that all of them give its name
pub TypesAgree : Pairs → Pairs → Type 0
TypesAgree all [] = Unit {0}
TypesAgree all (p ∷ ps) = (type_at all p.0 ≡ p.1) × TypesAgree all ps

-- each pair is the first for its name
pub TypesStand : Pairs → Type 0
TypesStand ps = FirstTypes ps ps

pub types_agree_none : (all : Pairs) → TypesAgree all []
unfolding TypesAgree
types_agree_none all = tt

pub types_stand_none : TypesStand []
unfolding TypesStand
types_stand_none = tt

first_agree : (all ps : Pairs) → FirstTypes all ps → TypesAgree all ps
unfolding TypesAgree
first_agree all [] h = tt
first_agree all (p ∷ ps) h = (rw h.0 refl, first_agree all ps h.1)

pub types_stand_first : (ps : Pairs) → TypesStand ps → FirstTypes ps ps
unfolding TypesStand
types_stand_first ps h = h

pub types_stand_agree : (ps : Pairs) → TypesStand ps → TypesAgree ps ps
unfolding TypesStand
types_stand_agree ps h = first_agree ps ps h

agree_more : (all ps : Pairs) (name : List ℕ) (u : Typ) → TypesAgree all ps → type_at all name ≡ u → TypesAgree all (ps ++ (name, u) ∷ [])
unfolding TypesAgree
agree_more all [] name u g e = (e, tt)
agree_more all (p ∷ ps) name u g e = (g.0, agree_more all ps name u g.1 e)

agree_fewer : (all ps : Pairs) (name : List ℕ) (u : Typ) → TypesAgree all (ps ++ (name, u) ∷ []) → TypesAgree all ps × (type_at all name ≡ u)
unfolding TypesAgree
agree_fewer all [] name u g = (tt, g.0)
agree_fewer all (p ∷ ps) name u g = let r = agree_fewer all ps name u g.1 in ((g.0, r.0), r.1)

agree_at : (all ps : Pairs) (a : List ℕ) (t : Typ) → TypesAgree all ps → found_type a ps ≡ Some t → type_at all a ≡ t
unfolding TypesAgree
agree_at all [] a t g e = absurd (none-some t e)
agree_at all (p ∷ ps) a t g e =
    chosen (bytes_eq p.0 a) _ _ _ (type_at all a ≡ t)
    (λ is f. rw (← (bytes_eq-Decides p.0 a).0 is) (g.0 ∙ same_Some p.1 t f)) (λ _ f. agree_at all ps a t g.1 f) e

found_more : (ps : Pairs) (name : List ℕ) (u : Typ) (a : List ℕ) (t : Typ) → found_type a ps ≡ Some t → found_type a (ps ++ (name, u) ∷ []) ≡ Some t
found_more [] name u a t e = absurd (none-some t e)
found_more (p ∷ ps) name u a t e = chosen_alike (bytes_eq p.0 a) _ _ _ _ _ _ (λ _ f. f) (λ _ f. found_more ps name u a t f) e

-- a name without a pair gets the new one
found_new : (ps : Pairs) (name : List ℕ) (u : Typ) → found_type name ps ≡ None → found_type name (ps ++ (name, u) ∷ []) ≡ Some u
found_new [] name u e = rw ((bytes_eq-Decides name name).1 refl) refl
found_new (p ∷ ps) name u e = chosen_alike (bytes_eq p.0 name) _ _ _ _ _ _ (λ _ f. absurd (none-some p.1 (sym f))) (λ _ f. found_new ps name u f) e

first_more : (old ps : Pairs) (name : List ℕ) (u : Typ) → FirstTypes old ps → found_type name old ≡ None → FirstTypes (old ++ (name, u) ∷ []) (ps ++ (name, u) ∷ [])
first_more old [] name u h e = (found_new old name u e, tt)
first_more old (p ∷ ps) name u h e = (found_more old name u p.0 p.1 h.0, first_more old ps name u h.1 e)

-- a step that finds what gives the pattern the type
abbrev pub ExactTypes : Pairs → Pairs → Type 0 → Option Pairs → Type 0
ExactTypes all old E o = Exact (TypesAgree all) TypesStand old E o

-- adding a pair finds what gives the name the type
bound_exact : (all : Pairs) (name : List ℕ) (t : Typ) (old : Pairs) (o : Option Typ) → found_type name old ≡ o → ExactTypes all old (type_at all name ≡ t) (bound_to o name t old)
unfolding TypesStand
bound_exact all name t old None f = record {
  finds = λ a e. (old ++ (name, t) ∷ [], refl, agree_more all old name t a e);
  back = λ new same a. agree_fewer all old name t (rw (same_Some _ new same) a);
  keeps = λ new same k. rw (← same_Some _ new same) (first_more old old name t k f);
}
bound_exact all name t old (Some known) f =
    exact_known (TypesAgree all) TypesStand old (known ≡ t) (type_at all name ≡ t) (type_eq known t) (type_eq-decides known t)
    (λ a e. sym (agree_at all old name known a f) ∙ e) (λ a e. agree_at all old name known a f ∙ e)

-- adding pairs finds what agrees with each of them
put_exact : (all old ps : Pairs) → ExactTypes all old (TypesAgree all ps) (put_types old ps)
unfolding TypesAgree
put_exact all old [] = exact_some (TypesAgree all) TypesStand old (Unit {0}) tt
put_exact all old (p ∷ ps) =
    exact_then (TypesAgree all) TypesStand old (type_at all p.0 ≡ p.1) (TypesAgree all ps) _ (λ known. put_types known ps)
    (bound_exact all p.0 p.1 old (found_type p.0 old) refl) (λ known. put_exact all known ps)

mutual
  matched_exact : (all : Pairs) (p t : Typ) (old : Pairs) → ExactTypes all old (retyped all p ≡ t) (matched old p t)
  matched_exact all (variable a) t old = bound_exact all a t old (found_type a old) refl
  matched_exact all (applied name args) (variable a) old = exact_none (TypesAgree all) TypesStand old _ (λ _ e. cc)
  matched_exact all (applied name args) (applied a types) old =
      exact_alike (TypesAgree all) TypesStand old ((name ≡ a) × (all_retyped all args ≡ types)) _ _
      (λ p. cc) (λ e. let f : name ≡ a = cc in let g : all_retyped all args ≡ types = cc in (f, g))
      (exact_if (TypesAgree all) TypesStand old (name ≡ a) (all_retyped all args ≡ types) (bytes_eq name a) _ (bytes_eq-Decides name a) (all_matched_exact all args types old))

  all_matched_exact : (all : Pairs) (ps ts : Typs) (old : Pairs) → ExactTypes all old (all_retyped all ps ≡ ts) (all_matched old ps ts)
  all_matched_exact all none none old = exact_some (TypesAgree all) TypesStand old _ refl
  all_matched_exact all none (more t ts) old = exact_none (TypesAgree all) TypesStand old _ (λ _ e. cc)
  all_matched_exact all (more p ps) none old = exact_none (TypesAgree all) TypesStand old _ (λ _ e. cc)
  all_matched_exact all (more p ps) (more t ts) old =
      exact_alike (TypesAgree all) TypesStand old ((retyped all p ≡ t) × (all_retyped all ps ≡ ts)) _ _
      (λ q. cc) (λ e. let f : retyped all p ≡ t = cc in let g : all_retyped all ps ≡ ts = cc in (f, g))
      (exact_then (TypesAgree all) TypesStand old (retyped all p ≡ t) (all_retyped all ps ≡ ts) (matched old p t) (λ known. all_matched known ps ts)
      (matched_exact all p t old) (λ known. all_matched_exact all ps ts known))

through_pairs : (all : Pairs) (p t : Typ) (old : Pairs) (o : Option Pairs) → matched [] p t ≡ o → ExactTypes all old (retyped all p ≡ t) (option_and_then (put_types old) o)
through_pairs all p t old None m =
    exact_none (TypesAgree all) TypesStand old _
    (λ _ e. let r = (matched_exact all p t []).finds (types_agree_none all) e in none-some r.0 (sym m ∙ r.1))
through_pairs all p t old (Some pairs) m =
    let h = matched_exact all p t [] in
    exact_alike (TypesAgree all) TypesStand old (TypesAgree all pairs) _ _
    (λ a. (h.back pairs m a).1)
    (λ e. let r = h.finds (types_agree_none all) e in rw (same_Some r.0 pairs (sym r.1 ∙ m)) at r.2)
    (put_exact all old pairs)

pub matched_type_exact : (all : Pairs) (p t : Typ) (old : Pairs) → ExactTypes all old (retyped all p ≡ t) (matched_type old p t)
matched_type_exact all p t old = through_pairs all p t old (matched [] p t) refl
