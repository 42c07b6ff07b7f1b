-- One more rule that is passed over.
use Rattle.std.proofs.Common.{◌≡◌, ℕ, List, ◌∷◌}
use Rattle.fp_term.specs.Terms.{Tm}
use Rattle.fp_rewriting.specs.declared.rule.Rule.{Rule}
use Rattle.fp_rewriting.specs.Fitting.{Passes, IsPassed, here, over}

passed : {d : ℕ} {t : Tm} (all : List Rule) (r : Rule) (rs : List Rule) → IsPassed d t r → Passes d t all (r ∷ rs) → Passes d t all rs
passed all r rs e (here rs') = over r rs rs e (here rs)
passed all r rs e (over r' rs' rest f p) = over r' rs' rs f (passed rs' r rs e p)

pub passed_on : {d : ℕ} {t : Tm} (all rest : List Rule) (r : Rule) (rs : List Rule) → rest ≡ r ∷ rs → IsPassed d t r → Passes d t all rest → Passes d t all rs
passed_on all rest r rs e f p = passed all r rs f (rw e at p)
