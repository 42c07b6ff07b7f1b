-- Named theorems with an index of their places at each of them.
use Rattle.std.specs.Prelude.{◌≡◌, ℕ, ◌+◌, List, [], ◌∷◌, ◌++◌, length}
use Rattle.fp_kernel.specs.Theorems.{Theorem}
use Rattle.fp_theory.specs.declared.named.Entry.{Entry}

abbrev pub seen_entry : Entry → List ℕ × Theorem
seen_entry e = (e.name, e.theorem)

-- the names with their places, the first of them at that one
abbrev pub placed : ℕ → List (List ℕ × Theorem) → List (List ℕ × ℕ)
placed at [] = []
placed at (entry ∷ rest) = (entry.0, at) ∷ placed (at + 1) rest

-- each entry has the places of those before it and its own
abbrev pub ArePlaced : List (List ℕ × ℕ) → List Entry → Type 0
ArePlaced before [] = Unit {0}
ArePlaced before (e ∷ rest) = (e.places ≡ before ++ (e.name, length before) ∷ []) × ArePlaced e.places rest
