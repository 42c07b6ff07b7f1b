-- Clauses of a group's functions, with one more.
use Rattle.std.specs.Prelude.{◌≡◌, ◌<◌, ℕ, List, [], ◌∷◌, ◌++◌, Result, Ok, Err, OnOk}
use Rattle.fp_group.specs.declared.clause.Clause.{Clause}
use Rattle.fp_pattern.specs.Completed.{AreBelow}

one_more : (count : ℕ) (cs : List Clause) (c : Clause) → AreBelow count cs → c.function < count → AreBelow count (cs ++ c ∷ [])
one_more count [] c h k = (k, tt)
one_more count (d ∷ cs) c h k = (h.0, one_more count cs c h.1 k)

pub pushed : {A E : Type 0} (r : Result A E) (count : ℕ) (old new : List Clause) (c : Clause) → OnOk r (new ≡ old ++ c ∷ []) → AreBelow count old → c.function < count → OnOk r (AreBelow count new)
pushed (Ok u) count old new c e h k = rw e (one_more count old c h k)
pushed (Err f) count old new c e h k = tt
