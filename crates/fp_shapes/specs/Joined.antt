-- Formulas that are joined of several, to the right.
use Rattle.std.specs.Prelude.{List, [], ◌∷◌, codes}
use Rattle.fp_term.specs.Terms.{Tm, app}
use Rattle.fp_conclude.specs.Logic.{connective, true_constant, false_constant, conjunction, implication}

abbrev pub disjunction : Tm → Tm → Tm
disjunction p q = app (app (connective (codes "or")) p) q

-- `p1 \/ .. \/ pn \/ q`
abbrev pub before : List Tm → Tm → Tm
before [] q = q
before (p ∷ ps) q = disjunction p (before ps q)

-- `p1 \/ .. \/ pn`, and `F` of none
abbrev pub disjunctions : List Tm → Tm
disjunctions [] = false_constant
disjunctions (p ∷ []) = p
disjunctions (p ∷ q ∷ ps) = disjunction p (disjunctions (q ∷ ps))

-- `p1 /\ .. /\ pn /\ q`
abbrev pub with_each : List Tm → Tm → Tm
with_each [] q = q
with_each (p ∷ ps) q = conjunction p (with_each ps q)

-- `p1 /\ .. /\ pn`, and `T` of none
abbrev pub conjunctions : List Tm → Tm
conjunctions [] = true_constant
conjunctions (p ∷ []) = p
conjunctions (p ∷ q ∷ ps) = conjunction p (conjunctions (q ∷ ps))

-- `p1 --> .. --> pn --> q`
abbrev pub implications : List Tm → Tm → Tm
implications [] q = q
implications (p ∷ ps) q = implication p (implications ps q)
