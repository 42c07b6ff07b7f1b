use Rattle.std.proofs.Common.{◌≡◌, ℕ, List, ◌++◌, drop, map}
use Rattle.fp_term.specs.Types.{Typ}
use Rattle.fp_spec.proofs.helpers.add_names_of_variables.Given as goal

abbrev pub invariant-loop-var : goal.invariant-loop-var
invariant-loop-var l = l.names ++ map (λ (v : List ℕ × Typ). v.0) (drop l.var-index l.vars) ≡ l.initial.names ++ map (λ (v : List ℕ × Typ). v.0) l.vars
