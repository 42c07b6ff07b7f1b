-- Formulas by their connective, and their parts.
use Rattle.std.specs.Prelude.{ℕ, if◌then◌else◌, List, Option, Some, None, codes}
use Rattle.fp_term.specs.Terms.{Tm, app, term_eq}
use Rattle.fp_conclude.specs.Logic.{connective}

-- the two formulas that the connective of that name joins
abbrev pub parts_by : List ℕ → Tm → Option (Tm × Tm)
parts_by name (app (app c p) q) = if term_eq c (connective name) then Some (p, q) else None
parts_by name _ = None

abbrev pub conjunction_parts : Tm → Option (Tm × Tm)
conjunction_parts t = parts_by (codes "and") t

abbrev pub implication_parts : Tm → Option (Tm × Tm)
implication_parts t = parts_by (codes "imp") t
