-- Equations that were added, and types that meet them.
use Rattle.std.proofs.Common.{◌≡◌, ◌∙◌, ◌<◌, ◌≤◌, ◌+◌, ℕ, true, false, cond, List, [], ◌∷◌, ◌++◌, refl, sym, ap, arith, append_assoc, append-nil}
use Rattle.std.specs.Prelude.{Some, None}
use Rattle.std.specs.Option.{option_map}
use Rattle.std.specs.Str.{bytes_eq}
use Rattle.std.proofs.lemmas.Option.{none-some, same_Some}
use Rattle.fp_constrain.proofs.Choices.{chosen}
use Rattle.fp_term.specs.Types.{Typ, Typs, variable, applied, none, more, found_type, type_or, all_retyped}
use Rattle.fp_term.specs.declared.signature.Signature.{Signature}
use Rattle.fp_unify.specs.Facts.{types_at, Holds, Solves, AllBelow, IsAbout, AreAbout, IsKnown, AreKnown}
use Rattle.fp_constrain.specs.Drafts.{found_number, table_types, TableBelow, Grows, Lays, LaysAll}
use Rattle.fp_unify.specs.declared.fact.Fact.{Fact}
use Rattle.fp_unify.specs.declared.fact.Fact.TheVariants.{IsVar, IsCon, Same, Never}
use Rattle.fp_unify.proofs.Ordered.{put, put_same, put_other}

-- types that are alike below n meet the same equations about these
module _ (n : ℕ) (v w : ℕ → Typ) (agree : (i : ℕ) → i < n → w i ≡ v i) where
  pub types_agree : (xs : List ℕ) → AllBelow n xs → types_at w xs ≡ types_at v xs
  types_agree [] h = refl
  types_agree (x ∷ xs) h = rw (agree x h.0, types_agree xs h.1) refl

  pub holds_agree : (fact : Fact) → IsAbout n fact → Holds v fact → Holds w fact
  holds_agree (IsVar at a) h k = agree at h ∙ k
  holds_agree (IsCon at a xs) h k = agree at h.0 ∙ k ∙ ap (applied a) (sym (types_agree xs h.1))
  holds_agree Never h k = k
  holds_agree (Same l r) h k = agree l h.0 ∙ k ∙ sym (agree r h.1)

  pub solves_agree : (limit : ℕ) (facts : List (ℕ × Fact)) → AreAbout n facts → Solves limit v facts → Solves limit w facts
  solves_agree limit [] h k = tt
  solves_agree limit (p ∷ facts) h k = ((λ below. holds_agree p.1 h.0 (k.0 below)), solves_agree limit facts h.1 k.1)

  pub table_agrees : (table : List (List ℕ × ℕ)) → TableBelow n table → table_types w table ≡ table_types v table
  table_agrees [] h = refl
  table_agrees (p ∷ table) h = rw (agree p.1 h.0, table_agrees table h.1) refl

-- larger bounds
pub all_below_more : (n m : ℕ) (xs : List ℕ) → n ≤ m → AllBelow n xs → AllBelow m xs
all_below_more n m [] h k = tt
all_below_more n m (x ∷ xs) h k = (omega arith, all_below_more n m xs h k.1)

about_one : (n m : ℕ) (fact : Fact) → n ≤ m → IsAbout n fact → IsAbout m fact
about_one n m (IsVar at a) h k = omega arith
about_one n m (IsCon at a xs) h k = (omega arith, all_below_more n m xs h k.1)
about_one n m Never h k = tt
about_one n m (Same l r) h k = (omega arith, omega arith)

pub about_more : (n m : ℕ) (facts : List (ℕ × Fact)) → n ≤ m → AreAbout n facts → AreAbout m facts
about_more n m [] h k = tt
about_more n m (p ∷ facts) h k = (about_one n m p.1 h k.0, about_more n m facts h k.1)

pub table_more : (n m : ℕ) (table : List (List ℕ × ℕ)) → n ≤ m → TableBelow n table → TableBelow m table
table_more n m [] h k = tt
table_more n m (p ∷ table) h k = (omega arith, table_more n m table h k.1)

-- one more equation
module _ (limit : ℕ) (v : ℕ → Typ) (step : ℕ) (fact : Fact) where
  pub solves_push : (facts : List (ℕ × Fact)) → Solves limit v facts → (step < limit → Holds v fact) → Solves limit v (facts ++ (step, fact) ∷ [])
  solves_push [] h k = (k, tt)
  solves_push (p ∷ facts) h k = (h.0, solves_push facts h.1 k)

  pub solves_pushed : (facts : List (ℕ × Fact)) → Solves limit v (facts ++ (step, fact) ∷ []) → Solves limit v facts × (step < limit → Holds v fact)
  solves_pushed [] h = (tt, h.0)
  solves_pushed (p ∷ facts) h = let r = solves_pushed facts h.1 in ((h.0, r.0), r.1)

pub about_push : (n step : ℕ) (fact : Fact) (facts : List (ℕ × Fact)) → AreAbout n facts → IsAbout n fact → AreAbout n (facts ++ (step, fact) ∷ [])
about_push n step fact [] h k = (k, tt)
about_push n step fact (p ∷ facts) h k = (h.0, about_push n step fact facts h.1 k)

pub known_push : (s : Signature) (written : List (List ℕ)) (step : ℕ) (fact : Fact) (facts : List (ℕ × Fact)) → AreKnown s written facts → IsKnown s written fact → AreKnown s written (facts ++ (step, fact) ∷ [])
known_push s written step fact [] h k = (k, tt)
known_push s written step fact (p ∷ facts) h k = (h.0, known_push s written step fact facts h.1 k)

-- a further type, of which an equation is said
pub grows_push : (n step : ℕ) (fact : Fact) (facts : List (ℕ × Fact)) → AreAbout n facts → IsAbout (n + 1) fact → Grows n facts (n + 1) (facts ++ (step, fact) ∷ [])
grows_push n step fact facts h k =
    record { later = omega arith; keeps = λ limit v s. (solves_pushed limit v step fact facts s).0; about = about_push (n + 1) step fact facts (about_more n (n + 1) facts (omega arith) h) k }

-- the types, but for one further type
pub put_agrees : (v : ℕ → Typ) (n : ℕ) (t : Typ) (i : ℕ) → i < n → put v n t i ≡ v i
put_agrees v n t i h = put_other v n t i (omega arith)

pub solves_put : (limit : ℕ) (v : ℕ → Typ) (n : ℕ) (t : Typ) (step : ℕ) (fact : Fact) (facts : List (ℕ × Fact)) → AreAbout n facts → Solves limit v facts → (step < limit → Holds (put v n t) fact) → Solves limit (put v n t) (facts ++ (step, fact) ∷ [])
solves_put limit v n t step fact facts h s k = solves_push limit (put v n t) step fact facts (solves_agree n v (put v n t) (put_agrees v n t) limit facts h s) k

pub grows_trans : (n m k : ℕ) (a b c : List (ℕ × Fact)) → Grows n a m b → Grows m b k c → Grows n a k c
grows_trans n m k a b c g h = record { later = omega (arith, g.later, h.later); keeps = λ limit v s. g.keeps limit v (h.keeps limit v s); about = h.about }

pub grows_none : (n : ℕ) (facts : List (ℕ × Fact)) → AreAbout n facts → Grows n facts n facts
grows_none n facts h = record { later = omega arith; keeps = λ limit v s. s; about = h }

-- the type of a name of the table
pub found_in : (v : ℕ → Typ) (a : List ℕ) (table : List (List ℕ × ℕ)) → found_type a (table_types v table) ≡ option_map v (found_number a table)
found_in v a [] = refl
found_in v a (p ∷ table) = elim (bytes_eq p.0 a) as (λ b. cond b (Some (v p.1)) (found_type a (table_types v table)) ≡ option_map v (cond b (Some p.1) (found_number a table))) [ true ↦ refl | false ↦ found_in v a table ]

found_below : (n : ℕ) (a : List ℕ) (table : List (List ℕ × ℕ)) (k : ℕ) → TableBelow n table → found_number a table ≡ Some k → k < n
found_below n a [] k h e = absurd (none-some k e)
found_below n a (p ∷ table) k h e = chosen (bytes_eq p.0 a) _ _ _ (k < n) (λ is f. rw (← same_Some p.1 k f) h.0) (λ is f. found_below n a table k h.1 f) e

lays_found_at : (step : ℕ) (table : List (List ℕ × ℕ)) (a : List ℕ) (n : ℕ) (old : List (ℕ × Fact)) (at : ℕ) → AreAbout n old → TableBelow n table → Some at ≡ found_number a table → Lays step table (variable a) n old n old at
lays_found_at step table a n old at h k e =
    let is : (v : ℕ → Typ) → type_or (found_type a (table_types v table)) (variable a) ≡ v at = λ v. rw (found_in v a table, ← e) refl in
    record {
      grows = grows_none n old h;
      inside = found_below n a table at k (sym e);
      sound = λ limit v below s. sym (is v);
      complete = λ limit v s. record { types = v; agree = λ i l. refl; solves = s; here = sym (is v) };
      only = λ g written known facts. facts;
    }

lays_variable_at : (step : ℕ) (table : List (List ℕ × ℕ)) (a : List ℕ) (n : ℕ) (old : List (ℕ × Fact)) → AreAbout n old → None ≡ found_number a table → Lays step table (variable a) n old (n + 1) (old ++ (step, IsVar n a) ∷ []) n
lays_variable_at step table a n old h e =
    let is : (v : ℕ → Typ) → type_or (found_type a (table_types v table)) (variable a) ≡ variable a = λ v. rw (found_in v a table, ← e) refl in
    record {
      grows = grows_push n step (IsVar n a) old h (omega arith);
      inside = omega arith;
      sound = λ limit v below s. (solves_pushed limit v step (IsVar n a) old s).1 below ∙ sym (is v);
      complete = λ limit v s. record {
        types = put v n (variable a);
        agree = put_agrees v n (variable a);
        solves = solves_put limit v n (variable a) step (IsVar n a) old h s (λ below. put_same v n (variable a));
        here = put_same v n (variable a) ∙ sym (is v);
      };
      only = λ g written known facts. known_push g written step (IsVar n a) old facts (known (sym e));
    }

lays_constructor_at : (step : ℕ) (table : List (List ℕ × ℕ)) (a : List ℕ) (args : Typs) (n : ℕ) (old : List (ℕ × Fact)) (m : ℕ) (mid : List (ℕ × Fact)) (all : List ℕ) →
    LaysAll step table args n old m mid [] all → Lays step table (applied a args) n old (m + 1) (mid ++ (step, IsCon m a all) ∷ []) m
lays_constructor_at step table a args n old m mid all l =
    let inside : AllBelow m all = rw l.put l.inside in
    record {
      grows = grows_trans n m (m + 1) old mid _ l.grows (grows_push m step (IsCon m a all) mid l.grows.about (omega arith, all_below_more m (m + 1) all (omega arith) inside));
      inside = omega arith;
      sound = λ limit v below s. let p = solves_pushed limit v step (IsCon m a all) mid s in p.1 below ∙ ap (applied a) (rw l.put (l.sound limit v below p.0));
      complete = λ limit v s.
          let e = l.complete limit v s in
          let t = applied a (all_retyped (table_types v table) args) in
          let w = put e.types m t in
          let args_are : types_at w all ≡ all_retyped (table_types v table) args = types_agree m e.types w (put_agrees e.types m t) all inside ∙ rw l.put e.here in
          record {
            types = w;
            agree = λ i below. put_agrees e.types m t i (omega (arith, l.grows.later)) ∙ e.agree i below;
            solves = solves_put limit e.types m t step (IsCon m a all) mid l.grows.about e.solves (λ below. put_same e.types m t ∙ ap (applied a) (sym args_are));
            here = put_same e.types m t;
          };
      only = λ g written known facts.
          known_push g written step (IsCon m a all) mid (l.only g written known.1 facts) (known.0 ∙ ap Some (sym (rw l.put l.counted)));
    }

pub lays_end : (step : ℕ) (table : List (List ℕ × ℕ)) (ts : Typs) (n : ℕ) (old : List (ℕ × Fact)) (before : List ℕ) → none ≡ ts → AreAbout n old → LaysAll step table ts n old n old before before
lays_end step table ts n old before t_is h =
    rw (← t_is) (record {
      more = [];
      counted = refl;
      put = sym (append-nil before);
      grows = grows_none n old h;
      inside = tt;
      sound = λ limit v below s. refl;
      complete = λ limit v s. record { types = v; agree = λ i l. refl; solves = s; here = refl };
      only = λ g written known facts. facts;
    })

lays_more_at : (step : ℕ) (table : List (List ℕ × ℕ)) (t : Typ) (ts : Typs) (n : ℕ) (old : List (ℕ × Fact)) (m : ℕ) (mid : List (ℕ × Fact)) (k : ℕ) (new : List (ℕ × Fact)) (at : ℕ) (before after : List ℕ) → TableBelow n table →
    Lays step table t n old m mid at → LaysAll step table ts m mid k new (before ++ at ∷ []) after → LaysAll step table (more t ts) n old k new before after
lays_more_at step table t ts n old m mid k new at before after h first rest =
    record {
      more = at ∷ rest.more;
      counted = let e = rest.counted in omega arith;
      put = rest.put ∙ append_assoc before (at ∷ []) rest.more;
      grows = grows_trans n m k old mid new first.grows rest.grows;
      inside = (omega (arith, first.inside, rest.grows.later), rest.inside);
      sound = λ limit v below s. rw (first.sound limit v below (rest.grows.keeps limit v s), rest.sound limit v below s) refl;
      complete = λ limit v s.
          let e = first.complete limit v s in
          let g = rest.complete limit e.types e.solves in
          record {
            types = g.types;
            agree = λ i below. g.agree i (omega (arith, first.grows.later)) ∙ e.agree i below;
            solves = g.solves;
            here = rw (g.agree at first.inside, e.here, g.here, table_agrees n v e.types e.agree table h) refl;
          };
      only = λ g written known facts. rest.only g written known.1 (first.only g written known.0 facts);
    }

pub lays_found : (step : ℕ) (table : List (List ℕ × ℕ)) (a : List ℕ) (t : Typ) (n : ℕ) (old : List (ℕ × Fact)) (at : ℕ) → variable a ≡ t → AreAbout n old → TableBelow n table → Some at ≡ found_number a table → Lays step table t n old n old at
lays_found step table a t n old at t_is h k e = rw (← t_is) (lays_found_at step table a n old at h k e)

pub lays_variable : (step : ℕ) (table : List (List ℕ × ℕ)) (a : List ℕ) (t : Typ) (n : ℕ) (old : List (ℕ × Fact)) (m : ℕ) (new : List (ℕ × Fact)) (at : ℕ) → variable a ≡ t → AreAbout n old → None ≡ found_number a table →
    m ≡ n + 1 → new ≡ old ++ (step, IsVar n a) ∷ [] → at ≡ n → Lays step table t n old m new at
lays_variable step table a t n old m new at t_is h e m_is new_is at_is = rw (← t_is, m_is, new_is, at_is) (lays_variable_at step table a n old h e)

pub lays_constructor : (step : ℕ) (table : List (List ℕ × ℕ)) (a : List ℕ) (args : Typs) (t : Typ) (n : ℕ) (old : List (ℕ × Fact)) (m : ℕ) (mid : List (ℕ × Fact)) (all first : List ℕ) (k : ℕ) (new : List (ℕ × Fact)) (at tag : ℕ) →
    applied a args ≡ t → LaysAll step table args n old m mid first all → first ≡ [] → tag ≡ step → k ≡ m + 1 → new ≡ mid ++ (tag, IsCon m a all) ∷ [] → at ≡ m → Lays step table t n old k new at
lays_constructor step table a args t n old m mid all first k new at tag t_is l empty tag_is k_is new_is at_is = rw (← t_is, k_is, new_is, tag_is, at_is) (lays_constructor_at step table a args n old m mid all (rw empty at l))

pub lays_more : (step : ℕ) (table : List (List ℕ × ℕ)) (t : Typ) (ts all_ts : Typs) (n : ℕ) (old : List (ℕ × Fact)) (m : ℕ) (mid : List (ℕ × Fact)) (k : ℕ) (new : List (ℕ × Fact)) (at tag : ℕ) (before between after : List ℕ) → more t ts ≡ all_ts → TableBelow n table →
    Lays step table t n old m mid at → tag ≡ step → between ≡ before ++ at ∷ [] → LaysAll tag table ts m mid k new between after → LaysAll step table all_ts n old k new before after
lays_more step table t ts all_ts n old m mid k new at tag before between after t_is h first tag_is between_is rest = rw (← t_is) (lays_more_at step table t ts n old m mid k new at before after h first (rw (tag_is, between_is) at rest))
