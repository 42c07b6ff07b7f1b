-- Measures have no loose numbers.
use Rattle.std.specs.Prelude.{◌≡◌, List, [], ◌∷◌, ◌++◌, Result, Ok, Err, IfOk}
use Rattle.fp_term.specs.Types.{Typ}
use Rattle.fp_term.specs.Terms.{Tm}
use Rattle.fp_term.specs.Typing.{function_type}
use Rattle.fp_measure.specs.Sources.{natural, AreMeasures}
use Rattle.fp_print.specs.Numbers.{AllHaveOnly}
use Rattle.fp_print.proofs.Loose.{typed_has_only}
use Rattle.fp_outcome.specs.Shown.{ListsHaveOnly}

all_shown : (ty : Typ) (ts : List Tm) → AreMeasures ty ts → AllHaveOnly 0 ts
all_shown ty [] h = tt
all_shown ty (t ∷ ts) h = (typed_has_only [] t (function_type ty natural) h.0.typed, all_shown ty ts h.1)

pub measures_shown : {E : Type 0} (r : Result (List Tm) E) (ty : Typ) → IfOk r (AreMeasures ty) → IfOk r (AllHaveOnly 0)
measures_shown (Ok ts) ty h = all_shown ty ts h
measures_shown (Err f) ty h = tt

with_last : (old : List (List Tm)) (ts : List Tm) → ListsHaveOnly old → AllHaveOnly 0 ts → ListsHaveOnly (old ++ ts ∷ [])
with_last [] ts h k = (k, tt)
with_last (x ∷ xs) ts h k = (h.0, with_last xs ts h.1 k)

pub one_more : (old new : List (List Tm)) (ts : List Tm) → new ≡ old ++ ts ∷ [] → ListsHaveOnly old → AllHaveOnly 0 ts → ListsHaveOnly new
one_more old new ts e h k = rw e (with_last old ts h k)
