-- The text of orders.
use Rattle.std.specs.Prelude.{ℕ, Bool, List, [], ◌∷◌, ◌++◌, codes}
use Rattle.fp_term.specs.Terms.{Tm}
use Rattle.fp_report.specs.Texts.{term_text}
use Rattle.fp_outcome.specs.declared.item.OrderPart.{OrderPart}
use Rattle.fp_outcome.specs.declared.item.OrderPart.TheVariants.{Column, Max, Min}

-- terms with a separator between them
abbrev pub after_each : Bool → List ℕ → List Tm → List ℕ
after_each full separator [] = []
after_each full separator (t ∷ ts) = separator ++ (term_text full t ++ after_each full separator ts)

abbrev pub separated : Bool → List ℕ → List Tm → List ℕ
separated full separator [] = []
separated full separator (t ∷ ts) = term_text full t ++ after_each full separator ts

-- `{m, m}`
abbrev pub set_text : Bool → List Tm → List ℕ
set_text full set = codes "{" ++ (separated full (codes ", ") set ++ codes "}")

abbrev pub sets_after : Bool → List (List Tm) → List ℕ
sets_after full [] = []
sets_after full (set ∷ sets) = codes " | " ++ (set_text full set ++ sets_after full sets)

abbrev pub sets_text : Bool → List (List Tm) → List ℕ
sets_text full [] = []
sets_text full (set ∷ sets) = set_text full set ++ sets_after full sets

abbrev pub part_text : Bool → OrderPart → List ℕ
part_text full (Column measures) = separated full (codes " | ") measures
part_text full (Max sets) = codes "max " ++ sets_text full sets
part_text full (Min sets) = codes "min " ++ sets_text full sets

abbrev pub parts_after : Bool → List OrderPart → List ℕ
parts_after full [] = []
parts_after full (part ∷ parts) = codes ", " ++ (part_text full part ++ parts_after full parts)

abbrev pub order_text : Bool → List OrderPart → List ℕ
order_text full [] = codes "none"
order_text full (part ∷ parts) = part_text full part ++ parts_after full parts
