-- Rows of a grid whose functions are so many.
use Rattle.std.specs.Prelude.{ℕ, ◌<◌, List, [], ◌∷◌}

abbrev pub AreRowsBelow : ℕ → List (ℕ × ℕ) → Type 0
AreRowsBelow count [] = Unit {0}
AreRowsBelow count (row ∷ rows) = (row.0 < count) × (row.1 < count) × AreRowsBelow count rows
