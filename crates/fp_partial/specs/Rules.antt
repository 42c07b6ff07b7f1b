-- The partial rules of a group.
use Rattle.std.specs.Prelude.{◌≡◌, ℕ, ◌+◌, List, [], ◌∷◌}
use Rattle.fp_kernel.specs.Theorems.{Theorem, plain}
use Rattle.fp_group.specs.declared.group.Group.{Group}
use Rattle.fp_spec.specs.Statements.{psimp_of}

-- the theorems are the partial rules of the clauses from that number on, without hypotheses and promises
abbrev pub ArePartialRules : Group → ℕ → List Theorem → Type 0
ArePartialRules group number [] = Unit {0}
ArePartialRules group number (th ∷ ths) = (th ≡ plain th.defs (psimp_of group number)) × ArePartialRules group (number + 1) ths
