-- What is well typed over a signature stays so over a larger one.
use Rattle.std.proofs.Common.{◌≡◌, ◌∙◌, ℕ, false, List, [], ◌∷◌, ◌++◌, refl, sym, ap}
use Rattle.std.specs.Prelude.{Some, None}
use Rattle.std.specs.Str.{bytes_eq}
use Rattle.std.proofs.lemmas.Option.{none-some}
use Rattle.std.proofs.lemmas.Slice.Eq.{bytes_eq-Decides}
use Rattle.fp_term.specs.declared.signature.Signature.{Signature}
use Rattle.fp_term.specs.Types.{Typ, Typs, variable, applied, none, more, found_type, retyped, all_retyped, IsInstance}
use Rattle.fp_term.specs.Terms.{Tm, bound, free, constant, app, abs}
use Rattle.fp_term.specs.Signatures.{arity_of, IsType, AreTypes, IsConstant, IsOver}
use Rattle.fp_term.proofs.Choices.{chosen, chosen_alike}
use Rattle.fp_kernel.specs.Definitions.{Def}
use Rattle.fp_kernel.specs.Start.{signature_of, types_of, constants_of}

found-append : (ps qs : List (List ℕ × Typ)) (a : List ℕ) (t : Typ) → found_type a ps ≡ Some t → found_type a (ps ++ qs) ≡ Some t
found-append [] qs a t e = absurd (none-some t e)
found-append (p ∷ ps) qs a t e = chosen_alike (bytes_eq p.0 a) _ _ _ _ _ _ (λ _ f. f) (λ _ f. found-append ps qs a t f) e

-- a name without a type is looked for among the new ones
pub found_after : (ps qs : List (List ℕ × Typ)) (a : List ℕ) → found_type a ps ≡ None → found_type a (ps ++ qs) ≡ found_type a qs
found_after [] qs a e = refl
found_after (p ∷ ps) qs a e = chosen (bytes_eq p.0 a) _ _ _ (found_type a (p ∷ ps ++ qs) ≡ found_type a qs) (λ _ f. absurd (none-some p.1 (sym f))) (λ no f. rw no (found_after ps qs a f)) e

found_here : (a : List ℕ) (t : Typ) (qs : List (List ℕ × Typ)) → found_type a ((a, t) ∷ qs) ≡ Some t
found_here a t qs = rw ((bytes_eq-Decides a a).1 refl) refl

-- a new name gets its type
pub found_new : (ps qs : List (List ℕ × Typ)) (a : List ℕ) (t : Typ) → found_type a ps ≡ None → found_type a (ps ++ (a, t) ∷ qs) ≡ Some t
found_new ps qs a t e = found_after ps ((a, t) ∷ qs) a e ∙ found_here a t qs

pub found_second : (ps : List (List ℕ × Typ)) (a b : List ℕ) (s t : Typ) → found_type b ps ≡ None → bytes_eq a b ≡ false → found_type b (ps ++ (a, s) ∷ (b, t) ∷ []) ≡ Some t
found_second ps a b s t e apart = found_after ps ((a, s) ∷ (b, t) ∷ []) b e ∙ (rw apart (found_here b t []))

pub arity_new : (ps : List (List ℕ × ℕ)) (a : List ℕ) (n : ℕ) → arity_of a ps ≡ None → arity_of a (ps ++ (a, n) ∷ []) ≡ Some n
arity_new [] a n e = rw ((bytes_eq-Decides a a).1 refl) refl
arity_new (p ∷ ps) a n e = chosen_alike (bytes_eq p.0 a) _ _ _ _ _ _ (λ _ f. absurd (none-some p.1 (sym f))) (λ _ f. arity_new ps a n f) e

arity-append : (ps qs : List (List ℕ × ℕ)) (a : List ℕ) (n : ℕ) → arity_of a ps ≡ Some n → arity_of a (ps ++ qs) ≡ Some n
arity-append [] qs a n e = absurd (none-some n e)
arity-append (p ∷ ps) qs a n e = chosen_alike (bytes_eq p.0 a) _ _ _ _ _ _ (λ _ f. f) (λ _ f. arity-append ps qs a n f) e

-- all that the one signature has stands in the other
pub record Grows (old new : Signature) : Type 0 where
  pub types : (a : List ℕ) (n : ℕ) → arity_of a old.types ≡ Some n → arity_of a new.types ≡ Some n
  pub consts : (a : List ℕ) (t : Typ) → found_type a old.consts ≡ Some t → found_type a new.consts ≡ Some t

pub one_more : (d : Def) (older : List Def) → Grows (signature_of older) (signature_of (d ∷ older))
one_more d older = record {
  types = λ a n e. arity-append (signature_of older).types (types_of d) a n e;
  consts = λ a t e. found-append (signature_of older).consts (constants_of d) a t e;
}

pub from_start : (defs : List Def) → Grows (signature_of []) (signature_of defs)
from_start [] = record { types = λ a n e. e; consts = λ a t e. e }
from_start (d ∷ older) =
    let rest = from_start older in
    let last = one_more d older in
    record { types = λ a n e. last.types a n (rest.types a n e); consts = λ a t e. last.consts a t (rest.consts a t e) }

module _ (old new : Signature) (g : Grows old new) where
  mutual
    pub type_grows : (t : Typ) → IsType old t → IsType new t
    type_grows (variable a) h = tt
    type_grows (applied a ts) h = (g.types a _ h.0, types_grow ts h.1)

    types_grow : (ts : Typs) → AreTypes old ts → AreTypes new ts
    types_grow none h = tt
    types_grow (more t ts) h = (type_grows t h.0, types_grow ts h.1)

  constant_grows : (a : List ℕ) (t : Typ) → IsConstant old a t → IsConstant new a t
  constant_grows a t c = record { declared = c.declared; found = g.consts a c.declared c.found; instance = c.instance }

  pub over_grows : (t : Tm) → IsOver old t → IsOver new t
  over_grows (bound n) h = tt
  over_grows (free a s) h = type_grows s h
  over_grows (constant a s) h = (constant_grows a s h.0, type_grows s h.1)
  over_grows (app f x) h = (over_grows f h.0, over_grows x h.1)
  over_grows (abs s x) h = (type_grows s h.0, over_grows x h.1)

-- a type is an instance of itself
mutual
  retyped_same : (t : Typ) → retyped [] t ≡ t
  retyped_same (variable a) = refl
  retyped_same (applied a ts) = ap (applied a) (all_retyped_same ts)

  all_retyped_same : (ts : Typs) → all_retyped [] ts ≡ ts
  all_retyped_same none = refl
  all_retyped_same (more t ts) = rw (retyped_same t, all_retyped_same ts) refl

pub own_instance : (t : Typ) → IsInstance t t
own_instance t = record { pairs = []; equal = retyped_same t }
