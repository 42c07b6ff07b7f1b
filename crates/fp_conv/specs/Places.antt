-- Subterms at places, and terms with another in such a place.
use Rattle.std.specs.Prelude.{ℕ, ◌==◌, if◌then◌else◌, List, [], ◌∷◌, Option, Some, None}
use Rattle.fp_term.specs.Terms.{Tm, app, abs}

-- the subterm at the place as it stands, with its loose numbers
abbrev pub subterm_at : List ℕ → Tm → Option Tm
subterm_at [] t = Some t
subterm_at (step ∷ place) (app f x) = if step == 0 then subterm_at place f else (if step == 1 then subterm_at place x else None)
subterm_at (step ∷ place) (abs s x) = if step == 2 then subterm_at place x else None
subterm_at (step ∷ place) t = None

-- the term with another in place of that subterm
abbrev pub put_at : List ℕ → Tm → Tm → Tm
put_at [] by t = by
put_at (step ∷ place) by (app f x) = if step == 0 then app (put_at place by f) x else app f (put_at place by x)
put_at (step ∷ place) by (abs s x) = abs s (put_at place by x)
put_at (step ∷ place) by t = t
