-- Type variables with numbers of their own, and types that are chosen for these.
use Rattle.std.proofs.Common.{◌≡◌, ◌∙◌, ◌<◌, ◌≤◌, ◌+◌, ◌⊎◌, inl, inr, ℕ, Bool, true, false, cond, ◌||◌, List, [], ◌∷◌, ◌++◌, length, refl, sym, ap, arith, append_assoc, subst}
use Rattle.std.specs.Prelude.{Some, None}
use Rattle.std.specs.Str.{bytes_eq}
use Rattle.std.proofs.lemmas.Bool.{cases_lt, both_ways}
use Rattle.std.proofs.lemmas.Option.{none-some}
use Rattle.std.proofs.lemmas.Slice.Eq.{bytes_eq-Decides}
use Rattle.fp_term.specs.Types.{Typ, Typs, variable, applied, none, more, found_type, type_or, retyped, all_retyped, IsInstance}
use Rattle.fp_term.specs.Variables.{type_names, all_type_names, is_among}
use Rattle.fp_term.specs.Signatures.{IsType, AreTypes}
use Rattle.fp_term.specs.declared.signature.Signature.{Signature}
use Rattle.fp_unify.specs.Facts.{Solves, AreAbout, AreKnown}
use Rattle.fp_constrain.specs.Drafts.{found_number, IsKnownType, AreKnownTypes, numbered, table_types, TableBelow, ExtendedIf, Grows, Lays, Leaf}
use Rattle.fp_unify.specs.declared.fact.Fact.{Fact}
use Rattle.fp_unify.specs.declared.fact.Fact.TheVariants.{Same}
use Rattle.fp_unify.proofs.Ordered.{put, put_same, put_other}
use Rattle.fp_constrain.proofs.Laid.{solves_agree, about_more, solves_pushed, solves_put, known_push, grows_push, grows_trans, grows_none, put_agrees}

pub numbered_append : (n : ℕ) (xs ys : List (List ℕ)) → numbered n (xs ++ ys) ≡ numbered n xs ++ numbered (n + length xs) ys
numbered_append n [] ys = ap (λ k. numbered k ys) (omega arith)
numbered_append n (x ∷ xs) ys =
    let e : n + 1 + length xs ≡ n + length (x ∷ xs) = omega arith in
    ap (◌∷◌ (x, n)) (numbered_append (n + 1) xs ys ∙ ap (λ k. numbered (n + 1) xs ++ numbered k ys) e)

numbered_below : (n m : ℕ) (names : List (List ℕ)) → n + length names ≤ m → TableBelow m (numbered n names)
numbered_below n m [] h = tt
numbered_below n m (a ∷ names) h = (omega arith, numbered_below (n + 1) m names (omega arith))

-- the types of names, by pairs
abbrev own : List (List ℕ × Typ) → List ℕ → Typ
own pairs a = type_or (found_type a pairs) (variable a)

abbrev owns : List (List ℕ × Typ) → List (List ℕ) → List (List ℕ × Typ)
owns pairs [] = []
owns pairs (a ∷ names) = (a, own pairs a) ∷ owns pairs names

-- the types, but for those of the names
chosen_for : (ℕ → Typ) → List (List ℕ × Typ) → ℕ → List (List ℕ) → ℕ → Typ
chosen_for v pairs n [] = v
chosen_for v pairs n (a ∷ names) = put (chosen_for v pairs (n + 1) names) n (own pairs a)

chosen_agrees : (v : ℕ → Typ) (pairs : List (List ℕ × Typ)) (n : ℕ) (names : List (List ℕ)) (i : ℕ) → i < n → chosen_for v pairs n names i ≡ v i
unfolding chosen_for
chosen_agrees v pairs n [] i h = refl
chosen_agrees v pairs n (a ∷ names) i h = put_other (chosen_for v pairs (n + 1) names) n (own pairs a) i (omega arith) ∙ chosen_agrees v pairs (n + 1) names i (omega arith)

-- types above n don't depend on what is put at n
put_below : (w : ℕ → Typ) (n : ℕ) (t : Typ) (m : ℕ) (names : List (List ℕ)) → n < m → table_types (put w n t) (numbered m names) ≡ table_types w (numbered m names)
put_below w n t m [] h = refl
put_below w n t m (a ∷ names) h = rw (put_other w n t m (omega arith), put_below w n t (m + 1) names (omega arith)) refl

chosen_types : (v : ℕ → Typ) (pairs : List (List ℕ × Typ)) (n : ℕ) (names : List (List ℕ)) → table_types (chosen_for v pairs n names) (numbered n names) ≡ owns pairs names
unfolding chosen_for
chosen_types v pairs n [] = refl
chosen_types v pairs n (a ∷ names) =
    let w = chosen_for v pairs (n + 1) names in
    rw (put_same w n (own pairs a), put_below w n (own pairs a) (n + 1) names (omega arith), chosen_types v pairs (n + 1) names) refl

own_by : (pairs : List (List ℕ × Typ)) (b a : List ℕ) (names : List (List ℕ)) (r : Bool) → bytes_eq b a ≡ r → (r || is_among names a) ≡ true → (is_among names a ≡ true → found_type a (owns pairs names) ≡ Some (own pairs a)) →
    cond r (Some (own pairs b)) (found_type a (owns pairs names)) ≡ Some (own pairs a)
own_by pairs b a names true e h f = ap (λ x. Some (own pairs x)) ((bytes_eq-Decides b a).0 e)
own_by pairs b a names false e h f = f h

own_found : (pairs : List (List ℕ × Typ)) (a : List ℕ) (names : List (List ℕ)) → is_among names a ≡ true → found_type a (owns pairs names) ≡ Some (own pairs a)
own_found pairs a [] h = cc
own_found pairs a (b ∷ names) h = own_by pairs b a names (bytes_eq b a) refl h (own_found pairs a names)

among_left : (xs ys : List (List ℕ)) (a : List ℕ) → is_among xs a ≡ true → is_among (xs ++ ys) a ≡ true
among_left [] ys a h = cc
among_left (x ∷ xs) ys a h = elim (bytes_eq x a) as (λ b. (b || is_among xs a) ≡ true → (b || is_among (xs ++ ys) a) ≡ true) [ true ↦ λ e. refl | false ↦ λ e. among_left xs ys a e ] h

among_right : (xs ys : List (List ℕ)) (a : List ℕ) → is_among ys a ≡ true → is_among (xs ++ ys) a ≡ true
among_right [] ys a h = h
among_right (x ∷ xs) ys a h = elim (bytes_eq x a) as (λ b. (b || is_among (xs ++ ys) a) ≡ true) [ true ↦ refl | false ↦ among_right xs ys a h ]

-- pairs for all names of a type give it the same instance
module _ (pairs : List (List ℕ × Typ)) (names : List (List ℕ)) where
  mutual
    same_instance : (t : Typ) → ((a : List ℕ) → is_among (type_names t) a ≡ true → is_among names a ≡ true) → retyped (owns pairs names) t ≡ retyped pairs t
    same_instance (variable a) h = rw (own_found pairs a names (h a (rw ((bytes_eq-Decides a a).1 refl) refl))) refl
    same_instance (applied a ts) h = ap (applied a) (same_instances ts h)

    same_instances : (ts : Typs) → ((a : List ℕ) → is_among (all_type_names ts) a ≡ true → is_among names a ≡ true) → all_retyped (owns pairs names) ts ≡ all_retyped pairs ts
    same_instances none h = refl
    same_instances (more t ts) h =
        rw (same_instance t (λ a e. h a (among_left (type_names t) (all_type_names ts) a e)), same_instances ts (λ a e. h a (among_right (type_names t) (all_type_names ts) a e))) refl

-- a further type that is the same as a known one
pub leaf_push : (P : (ℕ → Typ) → Typ → Type 0) (Q : Signature → List (List ℕ) → Type 0) (step n : ℕ) (old : List (ℕ × Fact)) (k : ℕ) (mid : List (ℕ × Fact)) (known : ℕ) → Grows n old k mid → known < k →
    ((limit : ℕ) (v : ℕ → Typ) → 0 < limit → Solves limit v mid → step < limit → P v (v known)) →
    ((limit : ℕ) (v : ℕ → Typ) (t : Typ) → Solves limit v old → (step < limit → P v t) → ExtendedIf step n v limit mid known t) →
    ((s : Signature) (written : List (List ℕ)) → Q s written → AreKnown s written old → AreKnown s written mid) →
    Leaf P Q step n old (k + 1) (mid ++ (step, Same k known) ∷ []) k
leaf_push P Q step n old k mid known g inside sound complete only =
    record {
      grows = grows_trans n k (k + 1) old mid _ g (grows_push k step (Same k known) mid g.about (omega arith, omega arith));
      inside = omega arith;
      sound = λ limit v some s below. let p = solves_pushed limit v step (Same k known) mid s in subst (P v) (sym (p.1 below)) (sound limit v some p.0 below);
      complete = λ limit v t s h.
          let e = complete limit v t s h in
          let w = put e.types k t in
          record {
            types = w;
            agree = λ i below. put_agrees e.types k t i (omega (arith, g.later)) ∙ e.agree i below;
            solves = solves_put limit e.types k t step (Same k known) mid g.about e.solves (λ below. put_same e.types k t ∙ sym (e.here below) ∙ sym (put_agrees e.types k t known inside));
            here = put_same e.types k t;
          };
      only = λ s written q facts. known_push s written step (Same k known) mid (only s written q facts) tt;
    }

pub leaf_known : (step n : ℕ) (old : List (ℕ × Fact)) (known : ℕ) → AreAbout n old → known < n → Leaf (λ v t. t ≡ v known) (λ g written. Unit {0}) step n old (n + 1) (old ++ (step, Same n known) ∷ []) n
leaf_known step n old known about inside =
    leaf_push (λ v t. t ≡ v known) (λ g written. Unit {0}) step n old n old known (grows_none n old about) inside (λ limit v some s below. refl)
    (λ limit v t s h. record { types = v; agree = λ i below. refl; solves = s; here = λ below. sym (h below) }) (λ s written q facts. facts)

instance_by : (declared : Typ) (step n : ℕ) (old : List (ℕ × Fact)) (k : ℕ) (mid : List (ℕ × Fact)) (known : ℕ) → AreAbout n old → Lays 0 (numbered n (type_names declared)) declared (n + length (type_names declared)) old k mid known →
    (limit : ℕ) (v : ℕ → Typ) (t : Typ) → Solves limit v old → (step < limit → IsInstance declared t) → (step < limit) ⊎ (limit ≤ step) → ExtendedIf step n v limit mid known t
instance_by declared step n old k mid known about l limit v t s h (inl below) =
    let i = h below in
    let names = type_names declared in
    let w = chosen_for v i.pairs n names in
    let e = l.complete limit w (solves_agree n v w (chosen_agrees v i.pairs n names) limit old about s) in
    record {
      types = e.types;
      agree = λ j less. e.agree j (omega arith) ∙ chosen_agrees v i.pairs n names j less;
      solves = e.solves;
      here = λ b. e.here ∙ ap (λ pairs. retyped pairs declared) (chosen_types v i.pairs n names) ∙ same_instance i.pairs names declared (λ a among. among) ∙ i.equal;
    }
instance_by declared step n old k mid known about l limit v t s h (inr above) =
    let e = l.complete limit v s in
    record { types = e.types; agree = λ j less. e.agree j (omega arith); solves = e.solves; here = λ below. absurd (omega arith) }

-- each name has a number
numbered_found : (a : List ℕ) (n : ℕ) (names : List (List ℕ)) → is_among names a ≡ true → found_number a (numbered n names) ≡ None → ⊥
numbered_found a n [] h e = both_ways false refl h
numbered_found a n (b ∷ names) h e =
    elim (bytes_eq b a) as (λ r. (r || is_among names a) ≡ true → cond r (Some n) (found_number a (numbered (n + 1) names)) ≡ None → ⊥)
    [ true ↦ λ f k. none-some n (sym k) | false ↦ λ f k. numbered_found a (n + 1) names f k ] h e

module _ (g : Signature) (written : List (List ℕ)) (table : List (List ℕ × ℕ)) where
  mutual
    known_type : (t : Typ) → IsType g t → ((a : List ℕ) → is_among (type_names t) a ≡ true → found_number a table ≡ None → ⊥) → IsKnownType g written table t
    known_type (variable a) is h = λ e. absurd (h a (rw ((bytes_eq-Decides a a).1 refl) refl) e)
    known_type (applied a ts) is h = (is.0, known_types ts is.1 h)

    known_types : (ts : Typs) → AreTypes g ts → ((a : List ℕ) → is_among (all_type_names ts) a ≡ true → found_number a table ≡ None → ⊥) → AreKnownTypes g written table ts
    known_types none is h = tt
    known_types (more t ts) is h =
        (known_type t is.0 (λ a e. h a (among_left (type_names t) (all_type_names ts) a e)), known_types ts is.1 (λ a e. h a (among_right (type_names t) (all_type_names ts) a e)))

pub instance_leaf : (declared : Typ) (step n : ℕ) (old : List (ℕ × Fact)) (m : ℕ) (between : List (ℕ × Fact)) (first table : List (List ℕ × ℕ)) (k : ℕ) (mid : List (ℕ × Fact)) (known : ℕ) (last : ℕ) (new : List (ℕ × Fact)) (at tag : ℕ) → AreAbout n old →
    first ≡ [] → table ≡ first ++ numbered n (type_names declared) → m ≡ n + length (type_names declared) → between ≡ old → Lays 0 table declared m between k mid known → tag ≡ step → last ≡ k + 1 → new ≡ mid ++ (tag, Same k known) ∷ [] → at ≡ k →
    Leaf (λ v t. IsInstance declared t) (λ g written. IsType g declared) step n old last new at
instance_leaf declared step n old m between first table k mid known last new at tag about empty table_is m_is between_is laid tag_is last_is new_is at_is =
    let l : Lays 0 (numbered n (type_names declared)) declared (n + length (type_names declared)) old k mid known = rw (table_is, m_is, between_is, empty) at laid in
    let g : Grows n old k mid = record { later = omega (arith, l.grows.later); keeps = l.grows.keeps; about = l.grows.about } in
    rw (last_is, new_is, tag_is, at_is)
    (leaf_push (λ v t. IsInstance declared t) (λ s written. IsType s declared) step n old k mid known g l.inside
    (λ limit v some s below. record { pairs = table_types v (numbered n (type_names declared)); equal = sym (l.sound limit v some s) })
    (λ limit v t s h. instance_by declared step n old k mid known about l limit v t s h (cases_lt step limit))
    (λ s written is facts. l.only s written (known_type s written (numbered n (type_names declared)) declared is (λ a e. numbered_found a n (type_names declared) e)) facts))

pub numbered_more : (old mid new : List (List ℕ × ℕ)) (n k : ℕ) (t : Typ) (ts all : Typs) → more t ts ≡ all → mid ≡ old ++ numbered n (type_names t) → k ≡ n + length (type_names t) → new ≡ mid ++ numbered k (all_type_names ts) → new ≡ old ++ numbered n (all_type_names all)
numbered_more old mid new n k t ts all all_is mid_is k_is new_is =
    rw (← all_is) (new_is ∙ rw (mid_is, k_is) (append_assoc old (numbered n (type_names t)) _ ∙ ap (◌++◌ old) (sym (numbered_append n (type_names t) (all_type_names ts)))))

pub instance_about : (n m : ℕ) (old new : List (ℕ × Fact)) (k : ℕ) → AreAbout n old → m ≡ n + k → new ≡ old → AreAbout m new
instance_about n m old new k about m_is new_is = rw (m_is, new_is) (about_more n (n + k) old (omega arith) about)

pub instance_table : (n m : ℕ) (names : List (List ℕ)) (first table slice : List (List ℕ × ℕ)) → first ≡ [] → table ≡ first ++ numbered n names → slice ≡ table → m ≡ n + length names → TableBelow m slice
instance_table n m names first table slice empty table_is slice_is m_is = rw (slice_is, table_is, empty) (numbered_below n m names (omega arith))
