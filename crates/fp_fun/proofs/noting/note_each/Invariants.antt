use Rattle.std.proofs.Common.{◌≡◌}
use Rattle.fp_theory.specs.Changes.{Extends}
use Rattle.fp_fun.proofs.noting.note_each.Given as goal

abbrev pub invariant-loop-named : goal.invariant-loop-named
invariant-loop-named l = Extends l.fn.theory l.theory × (l.theory.defs ≡ l.fn.theory.defs)
