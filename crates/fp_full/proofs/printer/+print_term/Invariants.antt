use Rattle.std.proofs.Common.{◌+◌, ◌*◌}
use Rattle.fp_term.specs.Terms.{size_of}
use Rattle.fp_full.proofs.printer.+print_term.Given as goal

abbrev pub decreases-print_term_onto : goal.decreases-print_term_onto
decreases-print_term_onto l = 2 * size_of l.term.now

abbrev pub decreases-print_application_onto : goal.decreases-print_application_onto
decreases-print_application_onto l = 2 * (size_of l.fun.now + size_of l.arg.now) + 1

abbrev pub decreases-print_abstraction_onto : goal.decreases-print_abstraction_onto
decreases-print_abstraction_onto l = 2 * size_of l.body.now + 1
