use Rattle.std.proofs.Common.{drop}
use Rattle.fp_graph.specs.Each.{Extends}
use Rattle.fp_graph.proofs.Growing.{Leads, Blames}
use Rattle.fp_graph.proofs.group.define_each.Given as goal

abbrev pub invariant-loop-name : goal.invariant-loop-name
invariant-loop-name l =
    Leads l.initial.theory l.terms l.theorems l.theory (drop l.name-index l.terms) × Blames l.initial.theory l.terms l.theory (drop l.name-index l.terms) × Extends l.initial.theory l.theory
