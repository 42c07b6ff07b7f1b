use Rattle.std.proofs.Common.{◌≡◌, drop}
use Rattle.fp_print.specs.Names.{with_names_of_all}
use Rattle.fp_print.proofs.names.add_names_of_all.Given as goal

abbrev pub invariant-loop-term : goal.invariant-loop-term
invariant-loop-term l = with_names_of_all l.used (drop l.term-index l.terms) ≡ with_names_of_all l.initial.used l.terms
