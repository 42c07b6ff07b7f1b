-- Sources of measures, and what they have after each of them was told a declaration.
use Rattle.std.specs.Prelude.{List, map}
use Rattle.fp_term.specs.Types.{Typ}
use Rattle.fp_term.specs.Terms.{Tm}
use Rattle.fp_measure.specs.Sources.{Habits, told}
use Rattle.fp_measure.specs.declared.source.DeclKind.{DeclKind}

-- which declarations it takes and how, and the types with their measures
pub record Source : Type 0 where
  pub habits : Habits
  pub entries : List (Typ × Tm)

abbrev pub source : Habits → List (Typ × Tm) → Source
source habits entries = record { habits = habits; entries = entries }

-- the source after it was told a declaration
abbrev pub told_one : DeclKind → Typ → Tm → Source → Source
told_one kind ty term s = source s.habits (told s.habits kind ty term s.entries)

abbrev pub told_each : DeclKind → Typ → Tm → List Source → List Source
told_each kind ty term sources = map (told_one kind ty term) sources
