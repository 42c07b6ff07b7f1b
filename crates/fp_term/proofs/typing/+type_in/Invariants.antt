use Rattle.std.proofs.Common.{◌+◌, ◌*◌}
use Rattle.fp_term.specs.Terms.{size_of}
use Rattle.fp_term.proofs.typing.+type_in.Given as goal

abbrev pub decreases-type_in : goal.decreases-type_in
decreases-type_in l = 2 * size_of l.term.now

abbrev pub decreases-type_of_application : goal.decreases-type_of_application
decreases-type_of_application l = 2 * (size_of l.fun.now + size_of l.arg.now) + 1

abbrev pub decreases-type_of_abstraction : goal.decreases-type_of_abstraction
decreases-type_of_abstraction l = 2 * size_of l.body.now + 1
