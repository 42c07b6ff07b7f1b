-- How much of a pattern isn't yet met by another: what falls with each split.
use Rattle.std.specs.Prelude.{ℕ, ◌+◌, max, List, [], ◌∷◌}
use Rattle.fp_term.specs.Terms.{Tm, free, constant, app}
use Rattle.fp_group.specs.declared.clause.Clause.{Clause}

abbrev pub weight : Tm → ℕ
weight (constant a s) = 1
weight (app f x) = 1 + weight f + weight x
weight _ = 0

-- the weight of the parts of `q` where `p` has a variable
abbrev pub gap : Tm → Tm → ℕ
gap (free x s) q = weight q
gap (app f x) (app g y) = gap f g + gap x y
gap _ _ = 0

abbrev pub gaps : List Tm → List Tm → ℕ
gaps (p ∷ ps) (q ∷ qs) = gap p q + gaps ps qs
gaps _ _ = 0

-- the largest of the clauses' gaps
abbrev pub most : List Clause → List Tm → ℕ
most [] q = 0
most (c ∷ cs) q = max (gaps c.patterns q) (most cs q)
