-- Terms in which several variables are bound, or to which a function is applied.
use Rattle.std.specs.Prelude.{◌≡◌, ℕ, false, List, [], ◌∷◌, None, Some}
use Rattle.fp_term.specs.Types.{Typ}
use Rattle.fp_term.specs.Terms.{Tm, free, app, abs, opened, closed, found}
use Rattle.fp_term.specs.Typing.{function_type}
use Rattle.fp_conclude.specs.Logic.{for_some, for_all}
use Rattle.fp_conclude.specs.Hypotheses.{occurs}
use Rattle.fp_conclude.specs.Shapes.{body_in}

abbrev pub Variables : Type 0
Variables = List (List ℕ × Typ)

-- `%x1 .. xn. t`
abbrev pub lambdas : Variables → Tm → Tm
lambdas [] t = t
lambdas (v ∷ vs) t = abs v.1 (closed 0 v.0 v.1 (lambdas vs t))

-- `?x1 .. xn. t`
abbrev pub for_somes : Variables → Tm → Tm
for_somes [] t = t
for_somes (v ∷ vs) t = for_some v.1 (closed 0 v.0 v.1 (for_somes vs t))

-- `!x1 .. xn. t`
abbrev pub for_alls : Variables → Tm → Tm
for_alls [] t = t
for_alls (v ∷ vs) t = for_all v.1 (closed 0 v.0 v.1 (for_alls vs t))

-- the type of functions of the variables
abbrev pub curried : Variables → Typ → Typ
curried [] r = r
curried (v ∷ vs) r = function_type v.1 (curried vs r)

-- `c x1 .. xn`
abbrev pub at_variables : Tm → Variables → Tm
at_variables c [] = c
at_variables c (v ∷ vs) = at_variables (app c (free v.0 v.1)) vs

-- the body of an abstraction over the variables, with them in it
abbrev pub opened_by : Variables → Tm → Tm
opened_by [] t = t
opened_by (v ∷ vs) t = opened_by vs (opened 0 (free v.0 v.1) (body_in t))

-- the pairs leave the variable alone, and put it nowhere
pub record LeaveAlone (name : List ℕ) (ty : Typ) (pairs : List (List ℕ × Typ × Tm)) : Type 0 where
  pub unpaired : found name ty pairs ≡ None
  pub unused : (a : List ℕ) (s : Typ) (u : Tm) → found a s pairs ≡ Some u → occurs name ty u ≡ false

abbrev pub LeaveAll : Variables → List (List ℕ × Typ × Tm) → Type 0
LeaveAll [] pairs = Unit {0}
LeaveAll (v ∷ vs) pairs = LeaveAlone v.0 v.1 pairs × LeaveAll vs pairs
