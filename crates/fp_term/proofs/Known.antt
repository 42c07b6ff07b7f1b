-- Nothing is unknown in a term exactly where it is over the signature.
use Rattle.std.proofs.Common.{◌≡◌, ◌∙◌, ℕ, Bool, true, false, cond, List, [], refl, sym, ap}
use Rattle.std.specs.Prelude.{Option, Some, None, is_some}
use Rattle.std.proofs.lemmas.Option.{none-some}
use Rattle.std.proofs.lemmas.Bool.Decides.{Decides-eqb}
use Rattle.fp_term.specs.declared.signature.Signature.{Signature}
use Rattle.fp_term.specs.Types.{Typ, Typs, variable, applied, none, more, count, found_type, IsInstance, matched}
use Rattle.fp_term.specs.Terms.{Tm, bound, free, constant, app, abs}
use Rattle.fp_term.specs.Signatures.{arity_of, IsType, AreTypes, IsConstant, IsOver, first_of, has_count, unknown_in_type, unknown_in_types, has_instance, unknown_in}
use Rattle.fp_term.proofs.Instances.{matched_instance, instance_matched}

-- neither of two
none_of_two : (a b : Option (List ℕ)) → first_of a b ≡ None → (a ≡ None) × (b ≡ None)
none_of_two None b e = (refl, e)
none_of_two (Some x) b e = absurd (none-some x (sym e))

neither : (a b : Option (List ℕ)) → a ≡ None → b ≡ None → first_of a b ≡ None
neither a b e f = rw e f

-- no name by a test
untested : (b : Bool) (x : Option (List ℕ)) (name : List ℕ) → cond b x (Some name) ≡ None → (b ≡ true) × (x ≡ None)
untested true x name e = (refl, e)
untested false x name e = absurd (none-some name (sym e))

counted : (o : Option ℕ) (n : ℕ) → has_count o n ≡ true → o ≡ Some n
counted None n e = cc
counted (Some arity) n e = ap Some (sym ((Decides-eqb n arity).0 e))

mutual
  pub type_known : (s : Signature) (t : Typ) → unknown_in_type s t ≡ None → IsType s t
  type_known s (variable name) e = tt
  type_known s (applied name args) e =
      let p = untested _ (unknown_in_types s args) name e in
      (counted (arity_of name s.types) (count args) p.0, types_known s args p.1)

  types_known : (s : Signature) (ts : Typs) → unknown_in_types s ts ≡ None → AreTypes s ts
  types_known s none e = tt
  types_known s (more t ts) e =
      let p = none_of_two (unknown_in_type s t) (unknown_in_types s ts) e in
      (type_known s t p.0, types_known s ts p.1)

mutual
  pub known_type : (s : Signature) (t : Typ) → IsType s t → unknown_in_type s t ≡ None
  known_type s (variable name) h = refl
  known_type s (applied name args) h = rw (h.0, (Decides-eqb (count args) (count args)).1 refl) (known_types s args h.1)

  known_types : (s : Signature) (ts : Typs) → AreTypes s ts → unknown_in_types s ts ≡ None
  known_types s none h = refl
  known_types s (more t ts) h = rw (known_type s t h.0) (known_types s ts h.1)

some_instance : (p t : Typ) (o : Option (List (List ℕ × Typ))) → matched [] p t ≡ o → is_some o ≡ true → IsInstance p t
some_instance p t None m e = cc
some_instance p t (Some pairs) m e = record { pairs = pairs; equal = matched_instance p t pairs m }

constant_known : (s : Signature) (name : List ℕ) (t : Typ) (o : Option Typ) → found_type name s.consts ≡ o → has_instance o t ≡ true → IsConstant s name t
constant_known s name t None f e = cc
constant_known s name t (Some declared) f e = record { declared = declared; found = f; instance = some_instance declared t (matched [] declared t) refl e }

pub known : (s : Signature) (t : Tm) → unknown_in s t ≡ None → IsOver s t
known s (bound n) e = tt
known s (free name t) e = type_known s t e
known s (constant name t) e =
    let p = untested _ (unknown_in_type s t) name e in
    (constant_known s name t (found_type name s.consts) refl p.0, type_known s t p.1)
known s (app f x) e = let p = none_of_two (unknown_in s f) (unknown_in s x) e in (known s f p.0, known s x p.1)
known s (abs t x) e = let p = none_of_two (unknown_in_type s t) (unknown_in s x) e in (type_known s t p.0, known s x p.1)

pub over_known : (s : Signature) (t : Tm) → IsOver s t → unknown_in s t ≡ None
over_known s (bound n) h = refl
over_known s (free name t) h = known_type s t h
over_known s (constant name t) h =
    let m = instance_matched h.0.declared t h.0.instance in
    rw (h.0.found, m.1) (known_type s t h.1)
over_known s (app f x) h = rw (over_known s f h.0) (over_known s x h.1)
over_known s (abs t x) h = rw (known_type s t h.0) (over_known s x h.1)

pub unknown_outside : (s : Signature) (t : Tm) (name : List ℕ) → unknown_in s t ≡ Some name → IsOver s t → ⊥
unknown_outside s t name e h = none-some name (sym (over_known s t h) ∙ e)

pub unknown_type_outside : (s : Signature) (t : Typ) (name : List ℕ) → unknown_in_type s t ≡ Some name → IsType s t → ⊥
unknown_type_outside s t name e h = none-some name (sym (known_type s t h) ∙ e)
