-- Each axiom is one of the axioms, and each definition of a logical constant one of the definitions.
use Rattle.std.proofs.Common.{List, []}
use Rattle.fp_conclude.specs.declared.axioms.Axiom.{Axiom}
use Rattle.fp_conclude.specs.declared.axioms.Axiom.TheVariants.{Eta, Selection, Infinity}
use Rattle.fp_conclude.specs.declared.connectives.LogicalConstant.{LogicalConstant}
use Rattle.fp_conclude.specs.declared.connectives.LogicalConstant.TheVariants.{Truth, Conjunction, Implication, Universal, Existential, Disjunction, Falsity, Negation}
use Rattle.fp_conclude.specs.Axioms.{axioms, axiom_statement, connectives, definition_statement}
use Rattle.fp_kernel.specs.Definitions.{Def}
use Rattle.fp_kernel.specs.Derivability.{IsIn, first, later}
use Rattle.fp_kernel.specs.Derivability.{Derives, axiom_of, connective_of}

axiom_in : (a : Axiom) → IsIn (axiom_statement a) axioms
axiom_in Eta = first
axiom_in Selection = later first
axiom_in Infinity = later (later first)

definition_in : (k : LogicalConstant) → IsIn (definition_statement k) connectives
definition_in Truth = first
definition_in Conjunction = later first
definition_in Implication = later (later first)
definition_in Universal = later (later (later first))
definition_in Existential = later (later (later (later first)))
definition_in Disjunction = later (later (later (later (later first))))
definition_in Falsity = later (later (later (later (later (later first)))))
definition_in Negation = later (later (later (later (later (later (later first))))))

pub by_axiom : (defs : List Def) (a : Axiom) → Derives defs [] [] (axiom_statement a)
by_axiom defs a = axiom_of (axiom_in a)

pub by_definition : (defs : List Def) (k : LogicalConstant) → Derives defs [] [] (definition_statement k)
by_definition defs k = connective_of (definition_in k)
