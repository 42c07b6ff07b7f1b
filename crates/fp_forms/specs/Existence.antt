-- What is said of `?` for the variables `P`, `x` and `q`, of which instances are taken.
use Rattle.std.specs.Prelude.{codes}
use Rattle.fp_term.specs.Types.{Typ}
use Rattle.fp_term.specs.Terms.{Tm, bound, free, app}
use Rattle.fp_conclude.specs.Logic.{truth_type, alpha, predicate_type, implication, quantifier, for_all, select}
use Rattle.fp_forms.specs.Schemas.{q_variable}
use Rattle.fp_forms.specs.declared.existence.ExistenceSchema.{ExistenceSchema}
use Rattle.fp_forms.specs.declared.existence.ExistenceSchema.TheVariants.{Introduction, Elimination, Choice}

abbrev pub predicate_variable : Tm
predicate_variable = free (codes "P") (predicate_type alpha)

abbrev pub element_variable : Tm
element_variable = free (codes "x") alpha

-- `P x`, for the variables
abbrev pub holds : Tm
holds = app predicate_variable element_variable

-- `ex P`
abbrev pub some_such : Typ → Tm → Tm
some_such s p = app (quantifier (codes "ex") s) p

-- `!x. P x --> q`
abbrev pub each_implies : Typ → Tm → Tm → Tm
each_implies s p q = for_all s (implication (app p (bound 0)) q)

-- `(!x. P x --> q) --> q`
abbrev pub reaches : Typ → Tm → Tm → Tm
reaches s p q = implication (each_implies s p q) q

-- `!q. (!x. P x --> q) --> q`
abbrev pub reaches_all : Typ → Tm → Tm
reaches_all s p = for_all truth_type (implication (each_implies s p (bound 1)) (bound 0))

-- `P (select P)`
abbrev pub at_choice : Typ → Tm → Tm
at_choice s p = app p (select s p)

-- `!x. P x --> P (select P)`
abbrev pub each_chosen : Typ → Tm → Tm
each_chosen s p = each_implies s p (at_choice s p)

-- what is derived of `?` once
abbrev pub statement_of : ExistenceSchema → Tm
-- `P x --> ex P`
statement_of Introduction = implication holds (some_such alpha predicate_variable)
-- `ex P --> (!x. P x --> q) --> q`
statement_of Elimination = implication (some_such alpha predicate_variable) (reaches alpha predicate_variable q_variable)
-- `!x. P x --> P (select P)`
statement_of Choice = each_chosen alpha predicate_variable
