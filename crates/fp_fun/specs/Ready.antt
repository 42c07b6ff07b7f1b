-- Theorems that can be named over some definitions.
use Rattle.std.specs.Prelude.{ℕ, List, [], ◌∷◌}
use Rattle.fp_kernel.specs.Definitions.{Def}
use Rattle.fp_kernel.specs.Theorems.{Theorem}
use Rattle.fp_theory.specs.State.{IsNoted}

abbrev pub AreReady : List Def → List (List ℕ × Theorem) → Type 0
AreReady defs [] = Unit {0}
AreReady defs (named ∷ more) = IsNoted defs named.1 × AreReady defs more
