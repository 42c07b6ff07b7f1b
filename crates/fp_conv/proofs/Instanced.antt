-- The instance of an equation that has a given term on the left.
use Rattle.std.proofs.Common.{◌≡◌, ◌∙◌, ℕ, Bool, true, false, ◌&&◌, List, [], ◌∷◌, map, refl, sym, ap}
use Rattle.std.specs.Prelude.{Some, None, Result, Ok, Err, IfOk}
use Rattle.std.proofs.lemmas.Option.{same_Some}
use Rattle.fp_term.specs.Names.{function}
use Rattle.fp_term.specs.Types.{Typ, Typs, variable, applied, none, more, retyped, all_retyped}
use Rattle.fp_term.specs.Terms.{Tm, bound, free, constant, app, abs, term_eq, replaced, retyped_term}
use Rattle.fp_term.specs.Typing.{type_under}
use Rattle.fp_term.specs.Variables.{is_among, type_names, all_type_names, type_names_in}
use Rattle.fp_term.specs.Signatures.{arity_of, IsType, AreTypes, IsOver, IsWellTyped, unknown_in_type}
use Rattle.fp_term.specs.declared.signature.Signature.{Signature}
use Rattle.fp_term.proofs.Equal.{term_eq-decides}
use Rattle.fp_term.proofs.Known.{known_type}
use Rattle.fp_term.proofs.Typed.{replaced_typed, typed_over}
use Rattle.fp_term.proofs.Retyped.{retyped_typed}
use Rattle.fp_match.specs.Instances.{AreTyped, IsInstanceBy, has_variable, AreTypeVariables, AreVariables, AreOwn, FirstTypes, FirstTerms, AreFirst}
use Rattle.fp_match.proofs.TypePairs.{Pairs, type_at}
use Rattle.fp_match.proofs.TermPairs.{Triples, term_at, is_variable, typed_at, typed_found}
use Rattle.fp_match.proofs.Unique.{either, among_either, one_name, unique_instance}
use Rattle.fp_conclude.specs.Logic.{equal}
use Rattle.fp_conclude.specs.Hypotheses.{IsSet, all_replaced, all_retyped_terms}
use Rattle.fp_conclude.specs.Checks.{AreTerms, AreTypesOf}
use Rattle.fp_conclude.specs.Outcomes.{gives}
use Rattle.fp_conclude.specs.Rules.{inst_of, inst_ty_of}
use Rattle.fp_conclude.proofs.Gives.{inst_gives, inst_ty_gives}
use Rattle.fp_conclude.proofs.Outcomes.{same_given}
use Rattle.fp_conclude.proofs.Sets.{union_nothing}
use Rattle.fp_kernel.specs.Definitions.{Def, Within, whole}
use Rattle.fp_kernel.specs.Start.{signature_of}
use Rattle.fp_kernel.specs.Theorems.{Theorem, IsTheorem, from_one}
use Rattle.fp_kernel.proofs.Growing.{from_start}
use Rattle.fp_conv.specs.Equations.{IsTyped, IsGiven, Equates}
use Rattle.fp_conv.specs.Outermost.{AreKept, keeps_all, IsAllowed, Instance, at_instance, Rewriting}
use Rattle.fp_conv.proofs.Rewriting.{sides_of}

both : (a b : Bool) → (a && b) ≡ true → (a ≡ true) × (b ≡ true)
both true b e = (refl, e)
both false b e = cc

-- what leaves each hypothesis as it is
pub kept_each : (types : Pairs) (terms : Triples) (hyps : List Tm) → keeps_all types terms hyps ≡ true → AreKept types terms hyps
kept_each types terms [] e = tt
kept_each types terms (h ∷ hyps) e =
    let p = both (term_eq (replaced terms (retyped_term types h)) h) (keeps_all types terms hyps) e in
    ((term_eq-decides (replaced terms (retyped_term types h)) h).0 p.0, kept_each types terms hyps p.1)

kept_likewise : (types pairs : Pairs) (terms others : Triples) → ((t : Tm) → replaced terms (retyped_term types t) ≡ replaced others (retyped_term pairs t)) →
    (hyps : List Tm) → AreKept pairs others hyps → keeps_all types terms hyps ≡ true
kept_likewise types pairs terms others same [] k = refl
kept_likewise types pairs terms others same (h ∷ hyps) k =
    rw ((term_eq-decides (replaced terms (retyped_term types h)) h).1 (same h ∙ k.0)) (kept_likewise types pairs terms others same hyps k.1)

-- no instance is allowed where one by the left side's own pairs isn't
pub not_allowed : (hyps : List Tm) (l t : Tm) (types : Pairs) (terms : Triples) → IsInstanceBy types terms l t → AreOwn types terms l → keeps_all types terms hyps ≡ false → Instance hyps l t → ⊥
not_allowed hyps l t types terms by own e i =
    let same = unique_instance l t types i.types terms i.terms by i.is.by own i.is.own in
    let k = kept_likewise types i.types terms i.terms same hyps i.is.kept in
    cc

-- the types and the terms of an instance are over the signature, where the term is
module _ (g : Signature) (fun_is : arity_of function g.types ≡ Some 2) where
  mutual
    type_part : (i : Pairs) (s : Typ) → IsType g (retyped i s) → (a : List ℕ) → is_among (type_names s) a ≡ true → IsType g (type_at i a)
    type_part i (variable b) h a is = rw (one_name b a is) at h
    type_part i (applied name args) h a is = types_part i args h.1 a is

    types_part : (i : Pairs) (ss : Typs) → AreTypes g (all_retyped i ss) → (a : List ℕ) → is_among (all_type_names ss) a ≡ true → IsType g (type_at i a)
    types_part i none h a is = cc
    types_part i (more s ss) h a is = among_either (type_names s) (all_type_names ss) a _ (type_part i s h.0 a) (types_part i ss h.1 a) is

  term_part : (i : Pairs) (ts : Triples) → AreTyped ts → (l : Tm) → IsOver g (replaced ts (retyped_term i l)) → (a : List ℕ) → is_among (type_names_in l) a ≡ true → IsType g (type_at i a)
  term_part i ts fit (bound n) h a is = cc
  term_part i ts fit (free x s) h a is = type_part i s (typed_over g fun_is (term_at ts x (retyped i s)) (retyped i s) h (typed_at ts x (retyped i s) fit)) a is
  term_part i ts fit (constant name s) h a is = type_part i s h.1 a is
  term_part i ts fit (app f x) h a is = among_either (type_names_in f) (type_names_in x) a _ (term_part i ts fit f h.0 a) (term_part i ts fit x h.1 a) is
  term_part i ts fit (abs s x) h a is = among_either (type_names s) (type_names_in x) a _ (type_part i s h.0 a) (term_part i ts fit x h.1 a) is

  variable_part : (ts : Triples) (q : Tm) → IsOver g (replaced ts q) → (x : List ℕ) (u : Typ) → has_variable x u q ≡ true → IsOver g (term_at ts x u)
  variable_part ts (bound n) h x u is = cc
  variable_part ts (free a s) h x u is = let d = (is_variable a s x u).0 is in rw (d.0, d.1) at h
  variable_part ts (constant a s) h x u is = cc
  variable_part ts (app f y) h x u is = either (has_variable x u f) (has_variable x u y) _ (variable_part ts f h.0 x u) (variable_part ts y h.1 x u) is
  variable_part ts (abs s y) h x u is = variable_part ts y h.1 x u is

  types_are : (l : Tm) (all i : Pairs) → ((a : List ℕ) → is_among (type_names_in l) a ≡ true → IsType g (type_at all a)) → AreTypeVariables l i → FirstTypes all i → AreTypesOf g i
  types_are l all [] h own first = tt
  types_are l all (q ∷ i) h own first = let k = h q.0 own.0 in (rw first.0 at k, types_are l all i h own.1 first.1)

  terms_are : (l : Tm) (all ts : Triples) → IsOver g (replaced all l) → AreVariables l ts → FirstTerms all ts → AreTyped ts → AreTerms g ts
  terms_are l all [] h own first fit = tt
  terms_are l all (q ∷ ts) h own first fit =
      let k = variable_part all l h q.0 q.1 own.0 in
      (record { typed = fit.0; over = rw first.0 at k }, terms_are l all ts h own.1 first.1 fit.1)

-- types and terms that together leave a term as it is leave it so one after the other
type_kept : (i : Pairs) (ts : Triples) → AreTyped ts → (h : Tm) → replaced ts (retyped_term i h) ≡ h → retyped_term i h ≡ h
type_kept i ts fit (bound n) e = refl
type_kept i ts fit (free x s) e = ap (free x) (same_Some (retyped i s) s (sym (typed_at ts x (retyped i s) fit) ∙ ap (type_under []) e))
type_kept i ts fit (constant a s) e = e
type_kept i ts fit (app f x) e =
    let h : replaced ts (retyped_term i f) ≡ f = cc in
    let k : replaced ts (retyped_term i x) ≡ x = cc in
    rw (type_kept i ts fit f h, type_kept i ts fit x k) refl
type_kept i ts fit (abs s x) e =
    let h : retyped i s ≡ s = cc in
    let k : replaced ts (retyped_term i x) ≡ x = cc in
    rw (h, type_kept i ts fit x k) refl

kept_lists : (i : Pairs) (ts : Triples) → AreTyped ts → (hyps : List Tm) → AreKept i ts hyps → (map (retyped_term i) hyps ≡ hyps) × (map (replaced ts) hyps ≡ hyps)
kept_lists i ts fit [] k = (refl, refl)
kept_lists i ts fit (h ∷ hyps) k =
    let same = type_kept i ts fit h k.0 in
    let whole = rw same at k.0 in
    let p = kept_lists i ts fit hyps k.1 in
    (rw (same, p.0) refl, rw (whole, p.1) refl)

kept_sets : (i : Pairs) (ts : Triples) (hyps : List Tm) → AreTyped ts → AreKept i ts hyps → IsSet hyps → (all_retyped_terms i hyps ≡ hyps) × (all_replaced ts hyps ≡ hyps)
kept_sets i ts hyps fit k set =
    let p = kept_lists i ts fit hyps k in
    (rw p.0 (union_nothing hyps set), rw p.1 (union_nothing hyps set))

functions : (defs : List Def) → arity_of function (signature_of defs).types ≡ Some 2
functions defs = (from_start defs).types function 2 refl

pub known_types : (defs : List Def) (s : Typ) (t : Tm) → IsWellTyped (signature_of defs) t s → unknown_in_type (signature_of defs) s ≡ None
known_types defs s t h = known_type (signature_of defs) s (typed_over (signature_of defs) (functions defs) t s h.over h.typed)

module _ (defs : List Def) (a : Theorem) (s : Typ) (l r : Tm) (w : Within a.defs defs) (d : IsTheorem a) (is : a.concl ≡ equal s l r) (set : IsSet a.hyps)
    (types : Pairs) (terms : Triples) (t : Tm) (h : IsAllowed a.hyps l types terms t) (f : AreFirst types terms) (k : IsTyped (signature_of defs) t) where
  over : IsOver (signature_of defs) (replaced terms (retyped_term types l))
  over = rw (← h.by.equal) at k.well.over

  all_kept : (all_retyped_terms types a.hyps ≡ a.hyps) × (all_replaced terms a.hyps ≡ a.hyps)
  all_kept = kept_sets types terms a.hyps h.by.fit h.kept set

  typed_are : AreTypesOf (signature_of defs) types
  typed_are = types_are (signature_of defs) (functions defs) l types types (term_part (signature_of defs) (functions defs) types terms h.by.fit l over) h.own.types_own f.types_first

  put_are : AreTerms (signature_of defs) terms
  put_are = terms_are (signature_of defs) (functions defs) (retyped_term types l) terms terms over h.own.terms_own f.terms_first h.by.fit

  abbrev typed : Theorem
  typed = record { defs = defs; promises = a.promises; hyps = a.hyps; concl = retyped_term types a.concl }

  typed_stands : from_one defs a (all_retyped_terms types a.hyps) (inst_ty_of (signature_of defs) types a.concl) ≡ gives typed
  typed_stands = rw all_kept.0 (ap (from_one defs a a.hyps) (inst_ty_gives (signature_of defs) types a.concl typed_are))

  pub typed_given : IsGiven (from_one defs a (all_retyped_terms types a.hyps) (inst_ty_of (signature_of defs) types a.concl))
  typed_given = record { value = _; given = typed_stands }

  left_typed : IsWellTyped (signature_of defs) t (retyped types s)
  left_typed =
      let p = retyped_typed types [] l s (sides_of defs a s l r w d is).left.typed in
      let q = replaced_typed terms (λ x u v e. typed_found terms x u v h.by.fit e) [] (retyped_term types l) (retyped types s) p in
      record { typed = rw h.by.equal at q; over = k.well.over }

  concluded : replaced terms (retyped_term types a.concl) ≡ equal (retyped types s) t (replaced terms (retyped_term types r))
  concluded = rw is (ap (λ (u : Tm). equal (retyped types s) u (replaced terms (retyped_term types r))) h.by.equal)

  module _ (b : Theorem) (made : from_one defs a (all_retyped_terms types a.hyps) (inst_ty_of (signature_of defs) types a.concl) ≡ gives b) where
    b_is : b ≡ typed
    b_is = same_given b typed (sym made ∙ typed_stands)

    pub typed_within : Within b.defs defs
    typed_within = rw b_is whole

    stands : from_one defs b (all_replaced terms b.hyps) (inst_of (signature_of defs) terms b.concl)
        ≡ gives (record { defs = defs; promises = a.promises; hyps = a.hyps; concl = equal (retyped types s) t (replaced terms (retyped_term types r)) })
    stands =
        let e = inst_gives (signature_of defs) terms (retyped_term types a.concl) (known_types defs) put_are in
        rw b_is (rw all_kept.1 (ap (from_one defs typed a.hyps) (e ∙ ap gives concluded)))

    pub put_given : IsGiven (from_one defs b (all_replaced terms b.hyps) (inst_of (signature_of defs) terms b.concl))
    put_given = record { value = _; given = stands }

    pub put_equates : {E : Type 0} (q : Result Theorem E) → IfOk q (λ th. from_one defs b (all_replaced terms b.hyps) (inst_of (signature_of defs) terms b.concl) ≡ gives th) →
        IfOk q (Equates defs a.promises a.hyps t (replaced terms (retyped_term types r)))
    put_equates (Ok th) e = record { type = retyped types s; typed = left_typed; is = same_given th _ (sym e ∙ stands) }
    put_equates (Err x) e = tt

-- a term that is an instance becomes the right side's
pub rewritten_at : (defs : List Def) (promises : List (ℕ × Tm)) (hyps : List Tm) (l r t : Tm) (types : Pairs) (terms : Triples) → IsAllowed hyps l types terms t →
    (th : Theorem) → Equates defs promises hyps t (replaced terms (retyped_term types r)) th → Rewriting defs promises hyps l r t th
rewritten_at defs promises hyps l r t types terms h th e = record {
  result = replaced terms (retyped_term types r);
  rewrites = at_instance (record { types = types; terms = terms; is = h });
  equates = e;
}
