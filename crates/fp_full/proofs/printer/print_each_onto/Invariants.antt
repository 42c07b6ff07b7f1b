use Rattle.std.proofs.Common.{◌≡◌, ◌++◌, drop}
use Rattle.fp_full.specs.Printing.{printed_each}
use Rattle.fp_full.proofs.printer.print_each_onto.Given as goal

abbrev pub invariant-loop-term : goal.invariant-loop-term
invariant-loop-term l = l.out.items ++ printed_each (drop l.term-index l.terms) ≡ l.initial.out.items ++ printed_each l.terms
