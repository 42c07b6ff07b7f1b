-- The theory of the start.
use Rattle.std.specs.Prelude.{ℕ, List, [], ◌∷◌, ◌++◌, codes}
use Rattle.fp_conclude.specs.declared.axioms.Axiom.{Axiom}
use Rattle.fp_conclude.specs.declared.axioms.Axiom.TheVariants.{Eta, Selection, Infinity}
use Rattle.fp_conclude.specs.declared.connectives.LogicalConstant.{LogicalConstant}
use Rattle.fp_conclude.specs.declared.connectives.LogicalConstant.TheVariants.{Truth, Conjunction, Implication, Universal, Existential, Disjunction, Falsity, Negation}
use Rattle.fp_conclude.specs.Axioms.{axiom_statement, definition_statement}
use Rattle.fp_kernel.specs.Theorems.{Theorem, plain}
use Rattle.fp_theory.specs.State.{State}

abbrev pub axiom_entry : List ℕ → Axiom → List ℕ × Theorem
axiom_entry name which = (name, plain [] (axiom_statement which))

abbrev pub definition_entry : List ℕ → LogicalConstant → List ℕ × Theorem
definition_entry name constant = (name, plain [] (definition_statement constant))

abbrev pub start_axioms : List (List ℕ × Theorem)
start_axioms = axiom_entry (codes "ETA") Eta ∷ axiom_entry (codes "SELECT") Selection ∷ axiom_entry (codes "INFINITY") Infinity ∷ []

abbrev pub start_connectives : List (List ℕ × Theorem)
start_connectives = definition_entry (codes "T_def") Truth ∷ definition_entry (codes "and_def") Conjunction ∷ definition_entry (codes "imp_def") Implication ∷ []

abbrev pub start_quantifiers : List (List ℕ × Theorem)
start_quantifiers = definition_entry (codes "all_def") Universal ∷ definition_entry (codes "ex_def") Existential ∷ []

abbrev pub start_others : List (List ℕ × Theorem)
start_others = definition_entry (codes "or_def") Disjunction ∷ definition_entry (codes "F_def") Falsity ∷ definition_entry (codes "not_def") Negation ∷ []

-- the axioms and the definitions of the logical constants are named, and nothing is declared
abbrev pub start : State
start = record { defs = []; named = start_axioms ++ start_connectives ++ start_quantifiers ++ start_others; simps = []; congs = []; types = [] }
