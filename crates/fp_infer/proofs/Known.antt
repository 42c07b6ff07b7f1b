-- The types that a term writes are of the signature where its names are right, and their names are written.
use Rattle.std.proofs.Common.{◌≡◌, ◌∙◌, ◌+◌, ℕ, suc, Bool, true, false, cond, ◌||◌, ◌==◌, List, [], ◌∷◌, ◌++◌, length, refl, sym, ap, arith}
use Rattle.std.specs.Prelude.{Option, Some, None, nat_lt, is_some}
use Rattle.std.specs.Str.{bytes_eq}
use Rattle.std.proofs.lemmas.Bool.Decides.{Decides-eqb}
use Rattle.std.proofs.lemmas.Slice.Eq.{bytes_eq-Decides}
use Rattle.fp_term.specs.Types.{Typ, Typs, variable, applied, none, more, count, found_type}
use Rattle.fp_term.specs.Variables.{is_among, type_names, all_type_names}
use Rattle.fp_term.specs.Signatures.{arity_of, IsType, AreTypes}
use Rattle.fp_term.specs.declared.signature.Signature.{Signature}
use Rattle.fp_raw.specs.Raws.{RawTyp, RawTyps, raw_variable, raw_applied, raw_none, raw_more, RawTm, raw_name, raw_bound, raw_free, raw_constant, raw_app, raw_abs, raw_typed}
use Rattle.fp_constrain.specs.Declarations.{Declared, exactly, instances, Declarations, declarations, declared_by}
use Rattle.fp_constrain.specs.Subterms.{plain, all_plain, plain_option}
use Rattle.fp_constrain.specs.Drafts.{IsKnownType, AreKnownTypes, IsKnownOption, IsKnownDeclared}
use Rattle.fp_constrain.specs.Draws.{IsKnownTerm}
use Rattle.fp_constrain.specs.Clash.{AreKnownGiven, IsKnownWant}
use Rattle.fp_infer.specs.Names.{Found, raw_count, lacks, takes_others, is_wrong, found_if, wrong_in_type, wrong_in_types, wrong_in_option, lacks_constant, wrong_in, sooner, earliest, written_in_option, written_in, written_in_pairs, written_in_want, written_names}
use Rattle.fp_infer.specs.Elaborated.{AreTypesIn, IsSound, AreRight}
use Rattle.fp_infer.specs.declared.names.Search.{Search}
use Rattle.fp_infer.specs.declared.names.Search.TheVariants.{Unknown, Arity}

-- looking at one list after another
pub earliest_append : (best : Option Found) (xs ys : List Found) → earliest best (xs ++ ys) ≡ earliest (earliest best xs) ys
earliest_append best [] ys = refl
earliest_append best (p ∷ xs) ys = earliest_append (sooner best p) xs ys

some_sooner : (best : Option Found) (p : Found) → sooner best p ≡ None → ⊥
some_sooner None p e = cc
some_sooner (Some q) p e = elim (nat_lt p.0 q.0) as (λ b. cond b (Some p) (Some q) ≡ None → ⊥) [ true ↦ λ f. cc | false ↦ λ f. cc ] e

none_earliest : (best : Option Found) (xs : List Found) → earliest best xs ≡ None → (best ≡ None) × (xs ≡ [])
none_earliest best [] e = (e, refl)
none_earliest best (p ∷ xs) e = absurd (some_sooner best p (none_earliest (sooner best p) xs e).0)

both_empty : (xs ys : List Found) → xs ++ ys ≡ [] → (xs ≡ []) × (ys ≡ [])
both_empty [] ys e = (refl, e)
both_empty (x ∷ xs) ys e = cc

not_found : (b : Bool) (at : ℕ) (a : List ℕ) → found_if b at a ≡ [] → b ≡ false
not_found true at a e = cc
not_found false at a e = refl

count_plain : (ts : RawTyps) → raw_count ts ≡ count (all_plain ts)
count_plain raw_none = refl
count_plain (raw_more t ts) = ap (λ n. 1 + n) (count_plain ts)

others_by : (n k : ℕ) (b : Bool) → (n == k) ≡ b → cond b false true ≡ false → k ≡ n
others_by n k true e f = sym ((Decides-eqb n k).0 e)
others_by n k false e f = cc

arity_right : (o : Option ℕ) (n : ℕ) → lacks o ≡ false → takes_others o n ≡ false → o ≡ Some n
arity_right None n e f = cc
arity_right (Some k) n e f = ap Some (others_by n k (n == k) refl f)

pub among_left : (xs ys : List (List ℕ)) (a : List ℕ) → is_among xs a ≡ true → is_among (xs ++ ys) a ≡ true
among_left [] ys a h = cc
among_left (x ∷ xs) ys a h = elim (bytes_eq x a) as (λ b. (b || is_among xs a) ≡ true → (b || is_among (xs ++ ys) a) ≡ true) [ true ↦ λ e. refl | false ↦ λ e. among_left xs ys a e ] h

pub among_right : (xs ys : List (List ℕ)) (a : List ℕ) → is_among ys a ≡ true → is_among (xs ++ ys) a ≡ true
among_right [] ys a h = h
among_right (x ∷ xs) ys a h = elim (bytes_eq x a) as (λ b. (b || is_among (xs ++ ys) a) ≡ true) [ true ↦ refl | false ↦ among_right xs ys a h ]

-- each of these names is written
abbrev All : List (List ℕ) → List (List ℕ) → Type 0
All written names = (a : List ℕ) → is_among names a ≡ true → is_among written a ≡ true

module _ (s : Signature) (written : List (List ℕ)) where
  mutual
    known_typ : (t : Typ) → IsType s t → All written (type_names t) → IsKnownType s written [] t
    known_typ (variable a) is h = λ e. h a (rw ((bytes_eq-Decides a a).1 refl) refl)
    known_typ (applied a ts) is h = (is.0, known_typs ts is.1 h)

    known_typs : (ts : Typs) → AreTypes s ts → All written (all_type_names ts) → AreKnownTypes s written [] ts
    known_typs none is h = tt
    known_typs (more t ts) is h =
        (known_typ t is.0 (λ a e. h a (among_left (type_names t) (all_type_names ts) a e)), known_typs ts is.1 (λ a e. h a (among_right (type_names t) (all_type_names ts) a e)))

  known_given : (given : List (List ℕ × Typ)) → AreTypesIn s given → All written (written_in_pairs given) → AreKnownGiven s written given
  known_given [] is h = tt
  known_given (p ∷ given) is h =
      (known_typ p.1 is.0 (λ a e. h a (among_left (type_names p.1) (written_in_pairs given) a e)), known_given given is.1 (λ a e. h a (among_right (type_names p.1) (written_in_pairs given) a e)))

  known_want : (want : Option Typ) → All written (written_in_want want) → IsKnownWant s written want
  known_want None h = tt
  known_want (Some w) h = λ is. known_typ w is h

  -- written types
  mutual
    right_type : (t : RawTyp) → wrong_in_type Unknown s t ≡ [] → wrong_in_type Arity s t ≡ [] → IsType s (plain t)
    right_type (raw_variable a at) e f = tt
    right_type (raw_applied a ts at) e f =
        let k = both_empty (found_if (lacks (arity_of a s.types)) at a) (wrong_in_types Unknown s ts) e in
        let l = both_empty (found_if (takes_others (arity_of a s.types) (raw_count ts)) at a) (wrong_in_types Arity s ts) f in
        (arity_right (arity_of a s.types) (raw_count ts) (not_found _ at a k.0) (not_found _ at a l.0) ∙ ap Some (count_plain ts), right_types ts k.1 l.1)

    right_types : (ts : RawTyps) → wrong_in_types Unknown s ts ≡ [] → wrong_in_types Arity s ts ≡ [] → AreTypes s (all_plain ts)
    right_types raw_none e f = tt
    right_types (raw_more t ts) e f =
        let k = both_empty (wrong_in_type Unknown s t) (wrong_in_types Unknown s ts) e in
        let l = both_empty (wrong_in_type Arity s t) (wrong_in_types Arity s ts) f in
        (right_type t k.0 l.0, right_types ts k.1 l.1)

  right_option : (t : Option RawTyp) → wrong_in_option Unknown s t ≡ [] → wrong_in_option Arity s t ≡ [] → All written (written_in_option t) → IsKnownOption s written (plain_option t)
  right_option None e f h = tt
  right_option (Some t) e f h = known_typ (plain t) (right_type t e f) h

  module _ (g : Declarations) (constants : (a : List ℕ) → IsKnownDeclared s written (g a)) where
    right_term : (raw : RawTm) → wrong_in Unknown s g raw ≡ [] → wrong_in Arity s g raw ≡ [] → All written (written_in raw) → IsKnownTerm s written g raw
    right_term (raw_name a at) e f h = constants a
    right_term (raw_bound n at) e f h = tt
    right_term (raw_free a t at) e f h = known_typ (plain t) (right_type t e f) h
    right_term (raw_constant a t at) e f h =
        let k = both_empty (found_if (lacks_constant Unknown (is_some (g a))) at a) (wrong_in_option Unknown s t) e in
        (constants a, right_option t k.1 f h)
    right_term (raw_app x y at) e f h =
        let k = both_empty (wrong_in Unknown s g x) (wrong_in Unknown s g y) e in
        let l = both_empty (wrong_in Arity s g x) (wrong_in Arity s g y) f in
        (right_term x k.0 l.0 (λ a m. h a (among_left (written_in x) (written_in y) a m)), right_term y k.1 l.1 (λ a m. h a (among_right (written_in x) (written_in y) a m)))
    right_term (raw_abs n t x at) e f h =
        let k = both_empty (wrong_in_option Unknown s t) (wrong_in Unknown s g x) e in
        let l = both_empty (wrong_in_option Arity s t) (wrong_in Arity s g x) f in
        (right_option t k.0 l.0 (λ a m. h a (among_left (written_in_option t) (written_in x) a m)), right_term x k.1 l.1 (λ a m. h a (among_right (written_in_option t) (written_in x) a m)))
    right_term (raw_typed x t at) e f h =
        let k = both_empty (wrong_in Unknown s g x) (wrong_in_type Unknown s t) e in
        let l = both_empty (wrong_in Arity s g x) (wrong_in_type Arity s t) f in (
          right_term x k.0 l.0 (λ a m. h a (among_left (written_in x) (type_names (plain t)) a m)),
          known_typ (plain t) (right_type t k.1 l.1) (λ a m. h a (among_right (written_in x) (type_names (plain t)) a m)),
        )

  known_found : (a : List ℕ) (exact : List (List ℕ × Typ)) (t : Typ) → AreTypesIn s exact → All written (written_in_pairs exact) → found_type a exact ≡ Some t → IsKnownType s written [] t
  known_found a [] t is h e = cc
  known_found a (p ∷ exact) t is h e =
      elim (bytes_eq p.0 a) as (λ b. cond b (Some p.1) (found_type a exact) ≡ Some t → IsKnownType s written [] t) [
        | true ↦ λ k. (let same : p.1 ≡ t = cc in rw (← same) (known_typ p.1 is.0 (λ b m. h b (among_left (type_names p.1) (written_in_pairs exact) b m))))
        | false ↦ λ k. known_found a exact t is.1 (λ b m. h b (among_right (type_names p.1) (written_in_pairs exact) b m)) k
      ] e

  known_declared : (a : List ℕ) (exact : List (List ℕ × Typ)) (o p : Option Typ) → found_type a exact ≡ o → found_type a s.consts ≡ p → AreTypesIn s exact → ((t : Typ) → found_type a s.consts ≡ Some t → IsType s t) → All written (written_in_pairs exact) → IsKnownDeclared s written (declared_by o p)
  known_declared a exact (Some t) p e f is d h = known_found a exact t is h e
  known_declared a exact None (Some t) e f is d h = d t f
  known_declared a exact None None e f is d h = tt

-- what a whole question asks is known
module _ (s : Signature) (exact given : List (List ℕ × Typ)) (want : Option Typ) (raw : RawTm) (sound : IsSound s exact given) where
  abbrev names : List (List ℕ)
  names = written_names exact given want raw

  abbrev E : List (List ℕ)
  E = written_in_pairs exact

  abbrev G : List (List ℕ)
  G = written_in_pairs given

  abbrev W : List (List ℕ)
  W = written_in_want want

  exact_written : All names E
  exact_written = λ a m. among_left ((E ++ G) ++ W) (written_in raw) a (among_left (E ++ G) W a (among_left E G a m))

  pub given_known : AreKnownGiven s names given
  given_known = known_given s names given sound.given_types (λ a m. among_left ((E ++ G) ++ W) (written_in raw) a (among_left (E ++ G) W a (among_right E G a m)))

  pub want_known : IsKnownWant s names want
  want_known = known_want s names want (λ a m. among_left ((E ++ G) ++ W) (written_in raw) a (among_right (E ++ G) W a m))

  pub term_known : AreRight s (declarations s exact) raw → IsKnownTerm s names (declarations s exact) raw
  term_known right =
      right_term s names (declarations s exact) (λ a. known_declared s names a exact (found_type a exact) (found_type a s.consts) refl refl sound.exact_types (sound.declared a) exact_written) raw
      (none_earliest None _ right.known).1 (none_earliest None _ right.arity).1 (λ a m. among_right ((E ++ G) ++ W) (written_in raw) a m)
