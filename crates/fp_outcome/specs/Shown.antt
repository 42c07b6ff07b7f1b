-- What is shown has no loose numbers, so that it can be printed.
use Rattle.std.specs.Prelude.{List, [], ◌∷◌}
use Rattle.fp_term.specs.Terms.{Tm}
use Rattle.fp_print.specs.Numbers.{AllHaveOnly}
use Rattle.fp_outcome.specs.declared.item.OrderPart.{OrderPart}
use Rattle.fp_outcome.specs.declared.item.OrderPart.TheVariants.{Column, Max, Min}
use Rattle.fp_outcome.specs.declared.fault.FunFault.{FunFault}
use Rattle.fp_outcome.specs.declared.fault.FunFault.TheVariants as fault

abbrev pub ListsHaveOnly : List (List Tm) → Type 0
ListsHaveOnly [] = Unit {0}
ListsHaveOnly (ts ∷ lists) = AllHaveOnly 0 ts × ListsHaveOnly lists

abbrev pub IsShownPart : OrderPart → Type 0
IsShownPart (Column ts) = AllHaveOnly 0 ts
IsShownPart (Max sets) = ListsHaveOnly sets
IsShownPart (Min sets) = ListsHaveOnly sets

abbrev pub AreShownParts : List OrderPart → Type 0
AreShownParts [] = Unit {0}
AreShownParts (part ∷ parts) = IsShownPart part × AreShownParts parts

abbrev pub IsShownFault : FunFault → Type 0
IsShownFault (fault.NoOrder at names measures rows found left) = ListsHaveOnly measures
IsShownFault _ = Unit {0}
