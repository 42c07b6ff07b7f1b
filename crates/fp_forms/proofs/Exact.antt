-- What has the parts of a quantified formula is one, and one has its parts.
use Rattle.std.proofs.Common.{◌≡◌, ◌∙◌, ℕ, List, refl, sym, ap}
use Rattle.std.specs.Prelude.{Option, Some, None, Result, Ok, Err, IfOk, MatchOption}
use Rattle.std.proofs.lemmas.Option.{none-some, same_Some}
use Rattle.fp_term.specs.Types.{Typ}
use Rattle.fp_term.specs.Terms.{Tm, constant, app, term_eq}
use Rattle.fp_term.proofs.Choices.{chosen}
use Rattle.fp_term.proofs.Equal.{term_eq-decides}
use Rattle.fp_conclude.specs.Logic.{quantifier}
use Rattle.fp_forms.specs.Quantified.{domain, over_domain, quantified}

abbrev Two : Type 0
Two = Typ × Tm

over_shape : (name : List ℕ) (q p : Tm) (o : Option Typ) (w : Two) → over_domain name q p o ≡ Some w → app q p ≡ app (quantifier name w.0) w.1
over_shape name q p None w e = absurd (none-some w e)
over_shape name q p (Some s) w e =
    chosen (term_eq q (quantifier name s)) _ _ _ (app q p ≡ app (quantifier name w.0) w.1)
    (λ is f. let same = same_Some {A = Two} (s, p) w f in
    rw ((term_eq-decides q (quantifier name s)).0 is, ← ap (λ (x : Two). x.0) same, ← ap (λ (x : Two). x.1) same) refl)
    (λ _ f. absurd (none-some w f)) e

quantified_shape : (name : List ℕ) (t : Tm) (w : Two) → quantified name t ≡ Some w → t ≡ app (quantifier name w.0) w.1
quantified_shape name (app (constant a ty) p) w e = over_shape name (constant a ty) p (domain ty) w e
quantified_shape name _ w e = absurd (none-some w e)

over_own : (name : List ℕ) (q p : Tm) (s : Typ) → q ≡ quantifier name s → over_domain name q p (Some s) ≡ Some (s, p)
over_own name q p s e = rw ((term_eq-decides q (quantifier name s)).1 e) refl

quantified_parts : (name : List ℕ) (s : Typ) (p : Tm) → quantified name (app (quantifier name s) p) ≡ Some (s, p)
quantified_parts name s p = over_own name (quantifier name s) p s refl

not_quantified : (name : List ℕ) (t : Tm) → quantified name t ≡ None → (s : Typ) (p : Tm) → t ≡ app (quantifier name s) p → ⊥
not_quantified name t h s p e = none-some (s, p) (sym h ∙ ap (quantified name) e ∙ quantified_parts name s p)

-- what is given as the parts of a term, if it is quantified
pub exact_parts : {A E : Type 0} (name : List ℕ) (t : Tm) (r : Result (Option A) E) (f : A → Typ) (g : A → Tm) → IfOk r (λ o. MatchOption o (quantified name t ≡ None) (λ p. quantified name t ≡ Some (f p, g p))) →
    IfOk r (λ o. MatchOption o ((s : Typ) (p : Tm) → t ≡ app (quantifier name s) p → ⊥) (λ p. t ≡ app (quantifier name (f p)) (g p)))
exact_parts name t (Ok None) f g h = not_quantified name t h
exact_parts name t (Ok (Some p)) f g h = quantified_shape name t (f p, g p) h
exact_parts name t (Err fault) f g h = tt
