-- Terms without loose numbers.
use Rattle.std.specs.Prelude.{ℕ, ◌+◌, ◌<◌, List, [], ◌∷◌}
use Rattle.fp_term.specs.Terms.{Tm, bound, free, constant, app, abs}
use Rattle.fp_print.specs.Shapes.{Shape, named, numbered, bound_by, joined_by, negated, chosen, paired, applied_to}

-- each number is below `n` and the abstractions around it together
abbrev pub HasOnly : ℕ → Tm → Type 0
HasOnly n (bound k) = k < n
HasOnly n (free a s) = Unit {0}
HasOnly n (constant a s) = Unit {0}
HasOnly n (app f x) = HasOnly n f × HasOnly n x
HasOnly n (abs s x) = HasOnly (n + 1) x

abbrev pub AllHaveOnly : ℕ → List Tm → Type 0
AllHaveOnly n [] = Unit {0}
AllHaveOnly n (t ∷ ts) = HasOnly n t × AllHaveOnly n ts

-- the same of a form
abbrev pub ShapeHasOnly : ℕ → Shape → Type 0
ShapeHasOnly n (named a) = Unit {0}
ShapeHasOnly n (numbered k) = k < n
ShapeHasOnly n (bound_by binder x) = ShapeHasOnly (n + 1) x
ShapeHasOnly n (joined_by symbol x y) = ShapeHasOnly n x × ShapeHasOnly n y
ShapeHasOnly n (negated x) = ShapeHasOnly n x
ShapeHasOnly n (chosen x y z) = ShapeHasOnly n x × (ShapeHasOnly n y × ShapeHasOnly n z)
ShapeHasOnly n (paired x y) = ShapeHasOnly n x × ShapeHasOnly n y
ShapeHasOnly n (applied_to f x) = ShapeHasOnly n f × ShapeHasOnly n x
