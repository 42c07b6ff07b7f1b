-- What the rules conclude from premises of their shape, and that two premises have it.
use Rattle.std.specs.Prelude.{◌≡◌, ℕ, List}
use Rattle.fp_term.specs.Types.{Typ}
use Rattle.fp_term.specs.Terms.{Tm, app, abs, opened, closed}
use Rattle.fp_term.specs.Typing.{function_type}
use Rattle.fp_conclude.specs.Logic.{equal}
use Rattle.fp_conclude.specs.Shapes.{function_in, argument_in, body_in, target, side_type, left, right, IsEquation, IsEquationOn, IsEquationFrom}

-- TRANS: the first is an equation, and the second one from its right side
abbrev pub AreChained : Tm → Tm → Type 0
AreChained p q = IsEquation p × IsEquationFrom (side_type p) (right p) q

abbrev pub trans_concl : Tm → Tm → Tm
trans_concl p q = equal (side_type p) (left p) (right q)

-- MK_COMB: the first is an equation of functions on the type of the second's sides
abbrev pub AreApplied : Tm → Tm → Type 0
AreApplied p q = IsEquationOn (side_type q) p × IsEquation q

abbrev pub mk_comb_concl : Tm → Tm → Tm
mk_comb_concl p q = equal (target (side_type p)) (app (left p) (left q)) (app (right p) (right q))

-- ABS
abbrev pub lam_concl : List ℕ → Typ → Tm → Tm
lam_concl name ty p = equal (function_type ty (side_type p)) (abs ty (closed 0 name ty (left p))) (abs ty (closed 0 name ty (right p)))

-- BETA, for a redex of that type
abbrev pub reduct : Tm → Tm
reduct t = opened 0 (argument_in t) (body_in (function_in t))

abbrev pub beta_concl : Typ → Tm → Tm
beta_concl s t = equal s t (reduct t)
