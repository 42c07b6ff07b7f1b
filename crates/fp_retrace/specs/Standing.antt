-- Theorems that stand over the first ones of some definitions.
use Rattle.std.specs.Prelude.{ℕ, List, [], ◌∷◌}
use Rattle.fp_kernel.specs.Definitions.{Def, Within}
use Rattle.fp_kernel.specs.Theorems.{Theorem}

abbrev pub IsWithin : List Def → Theorem → Type 0
IsWithin defs th = Within th.defs defs

abbrev pub AreWithin : List Def → List Theorem → Type 0
AreWithin defs [] = Unit {0}
AreWithin defs (th ∷ ths) = Within th.defs defs × AreWithin defs ths

-- the same of theorems with their names
abbrev pub AreNamedWithin : List Def → List (List ℕ × Theorem) → Type 0
AreNamedWithin defs [] = Unit {0}
AreNamedWithin defs (named ∷ more) = Within named.1.defs defs × AreNamedWithin defs more
