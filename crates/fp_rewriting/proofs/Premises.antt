-- One premise more is taken off.
use Rattle.std.proofs.Common.{◌≡◌, Bool, true, false, cond, [], ◌∷◌, refl, ap}
use Rattle.std.specs.Prelude.{Option, Some, None, codes}
use Rattle.fp_term.specs.Terms.{Tm, bound, free, constant, app, abs, term_eq}
use Rattle.fp_conclude.specs.Logic.{connective}
use Rattle.fp_forms.specs.Forms.{implication_parts}
use Rattle.fp_rewriting.specs.Reading.{premises, consequence}

pub record Taken (t p q : Tm) : Type 0 where
  pub premises_are : premises t ≡ p ∷ premises q
  pub consequence_is : consequence t ≡ consequence q

abbrev first_or : Tm → Option (Tm × Tm) → Tm
first_or x None = x
first_or x (Some p) = p.0

abbrev second_or : Tm → Option (Tm × Tm) → Tm
second_or y None = y
second_or y (Some p) = p.1

taken_by : (b : Bool) (t x y p q : Tm) → cond {A = Option (Tm × Tm)} b (Some (x, y)) None ≡ Some (p, q) → premises t ≡ cond b (x ∷ premises y) [] → consequence t ≡ cond b (consequence y) t → Taken t p q
taken_by true t x y p q e f g = let a : x ≡ p = ap (λ (o : Option (Tm × Tm)). (first_or x o)) e in let b : y ≡ q = ap (λ (o : Option (Tm × Tm)). (second_or y o)) e in record { premises_are = rw (← a, ← b) f; consequence_is = rw (← b) g }
taken_by false t x y p q e f g = cc

pub one_taken : (t p q : Tm) → implication_parts t ≡ Some (p, q) → Taken t p q
one_taken (app (app c x) y) p q e = taken_by (term_eq c (connective (codes "imp"))) (app (app c x) y) x y p q e refl refl
one_taken (app (bound n) y) p q e = cc
one_taken (app (free a s) y) p q e = cc
one_taken (app (constant a s) y) p q e = cc
one_taken (app (abs s x) y) p q e = cc
one_taken (bound n) p q e = cc
one_taken (free a s) p q e = cc
one_taken (constant a s) p q e = cc
one_taken (abs s x) p q e = cc

pub record AllTaken (t : Tm) : Type 0 where
  pub premises_are : premises t ≡ []
  pub consequence_is : consequence t ≡ t

all_taken_by : (b : Bool) (t x y : Tm) → cond {A = Option (Tm × Tm)} b (Some (x, y)) None ≡ None → premises t ≡ cond b (x ∷ premises y) [] → consequence t ≡ cond b (consequence y) t → AllTaken t
all_taken_by true t x y e f g = cc
all_taken_by false t x y e f g = record { premises_are = f; consequence_is = g }

pub all_taken : (t : Tm) → implication_parts t ≡ None → AllTaken t
all_taken (app (app c x) y) e = all_taken_by (term_eq c (connective (codes "imp"))) (app (app c x) y) x y e refl refl
all_taken (app (bound n) y) e = record { premises_are = refl; consequence_is = refl }
all_taken (app (free a s) y) e = record { premises_are = refl; consequence_is = refl }
all_taken (app (constant a s) y) e = record { premises_are = refl; consequence_is = refl }
all_taken (app (abs s x) y) e = record { premises_are = refl; consequence_is = refl }
all_taken (bound n) e = record { premises_are = refl; consequence_is = refl }
all_taken (free a s) e = record { premises_are = refl; consequence_is = refl }
all_taken (constant a s) e = record { premises_are = refl; consequence_is = refl }
all_taken (abs s x) e = record { premises_are = refl; consequence_is = refl }
