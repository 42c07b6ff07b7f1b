-- What has the parts of `?v. p` is that, and what was checked is well typed.
use Rattle.std.proofs.Common.{◌≡◌, ◌∙◌, ℕ, false, List, ◌∷◌, refl, sym, ap, subst}
use Rattle.std.specs.Prelude.{Option, Some, None, codes}
use Rattle.std.proofs.lemmas.Option.{none-some, same_Some}
use Rattle.fp_term.specs.declared.signature.Signature.{Signature}
use Rattle.fp_term.specs.Types.{Typ}
use Rattle.fp_term.specs.Terms.{Tm, app, abs, term_eq}
use Rattle.fp_term.specs.Signatures.{IsWellTyped, first_of, unknown_in}
use Rattle.fp_term.proofs.Choices.{chosen}
use Rattle.fp_term.proofs.Equal.{term_eq-decides}
use Rattle.fp_conclude.specs.Logic.{quantifier}
use Rattle.fp_conclude.specs.Hypotheses.{occurs, occurs_in_any}
use Rattle.fp_conclude.specs.Checks.{typed, typed_over}
use Rattle.fp_conclude.specs.Outcomes.{gives, unknown_name, followed_by}
use Rattle.fp_conclude.proofs.Checked.{well_typed}
use Rattle.fp_conclude.proofs.Outcomes.{unless_gives, followed_gives}
use Rattle.fp_kernel.specs.Definitions.{Def, Within}
use Rattle.fp_kernel.specs.Theorems.{Theorem, IsTheorem}
use Rattle.fp_conclude.specs.Shapes.{argument_in, body_in, IsAbstraction}
use Rattle.fp_forms.specs.Quantified.{existence_parts}
use Rattle.fp_quant.specs.Existential.{witness_type}
use Rattle.fp_forms.specs.Existence.{some_such}
use Rattle.fp_quant.specs.Existence.{IsExistence}
use Rattle.fp_quant.proofs.Existing.{existence}
use Rattle.fp_quant.proofs.Reached.{is_abstraction, neither}

abbrev Two : Type 0
Two = Typ × Tm

pub existence_shape : (t : Tm) (p : Two) → existence_parts t ≡ Some p → t ≡ some_such p.0 (abs p.0 p.1)
existence_shape (app c (abs s b)) p e =
    chosen (term_eq c (quantifier (codes "ex") s)) _ _ _ (app c (abs s b) ≡ some_such p.0 (abs p.0 p.1))
    (λ is f. let same = same_Some {A = Two} (s, b) p f in
    rw ((term_eq-decides c (quantifier (codes "ex") s)).0 is, ← ap (λ (q : Two). q.0) same, ← ap (λ (q : Two). q.1) same) refl)
    (λ _ f. absurd (none-some p f)) e
existence_shape _ p e = absurd (none-some p e)

-- the parts of a theorem
module _ (defs : List Def) (a : Theorem) (s : Typ) (b p : Tm) (w : Within a.defs defs) (d : IsTheorem a) (is : existence_parts a.concl ≡ Some (s, b)) (at : p ≡ argument_in a.concl) where
  shape : a.concl ≡ some_such s (abs s b)
  shape = existence_shape a.concl (s, b) is

  predicate_is : p ≡ abs s b
  predicate_is = at ∙ ap argument_in shape

  pub existence_at : IsExistence defs a s p
  existence_at = subst (λ (x : Tm). IsExistence defs a s x) (sym predicate_is) (existence defs s a b w d shape)

  pub abstraction_at : IsAbstraction p
  abstraction_at = is_abstraction p s b predicate_is

  pub body_at : body_in p ≡ b
  body_at = ap body_in predicate_is

-- what is free neither in the conclusions nor in the hypotheses that are left
module _ (name : List ℕ) (ty : Typ) (p : Tm) (a : Theorem) (q : Tm) (rest : List Tm) (apart : occurs_in_any name ty (q ∷ a.concl ∷ rest) ≡ false) where
  pub concl_apart : occurs name ty q ≡ false
  concl_apart = (neither (occurs name ty q) (occurs_in_any name ty (a.concl ∷ rest)) apart).0

  later : occurs_in_any name ty (a.concl ∷ rest) ≡ false
  later = (neither (occurs name ty q) (occurs_in_any name ty (a.concl ∷ rest)) apart).1

  pub rest_apart : occurs_in_any name ty rest ≡ false
  rest_apart = (neither (occurs name ty a.concl) (occurs_in_any name ty rest) later).1

  pub predicate_apart : (s : Typ) → a.concl ≡ some_such s p → occurs name ty p ≡ false
  predicate_apart s e = subst (λ (x : Tm). occurs name ty x ≡ false) e (neither (occurs name ty a.concl) (occurs_in_any name ty rest) later).0

-- what was checked
none_of_two : (a b : Option (List ℕ)) → first_of a b ≡ None → (a ≡ None) × (b ≡ None)
none_of_two None b e = (refl, e)
none_of_two (Some x) b e = absurd (none-some x (sym e))

known_typed : (g : Signature) (t : Tm) (s : Typ) → unknown_in g t ≡ None → typed t ≡ gives s → IsWellTyped g t s
unfolding typed_over
known_typed g t s n e = let is : typed_over g t ≡ gives s = rw (n, e) refl in well_typed g t s is

pub witness_typed : (g : Signature) (t u : Tm) (s : Typ) → witness_type g t u ≡ gives s → ((r : Typ) × IsWellTyped g t r) × IsWellTyped g u s
witness_typed g t u s e =
    let a = unless_gives unknown_name (first_of (unknown_in g t) (unknown_in g u)) (followed_by (typed t) (λ _. typed u)) s e in
    let n = none_of_two (unknown_in g t) (unknown_in g u) a.0 in
    let b = followed_gives (typed t) (λ _. typed u) s a.1 in
    ((b.0, known_typed g t b.0 n.0 b.1), known_typed g u s n.1 b.2)
