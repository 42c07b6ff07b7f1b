use Rattle.std.proofs.Common.{◌+◌, ◌*◌}
use Rattle.fp_term.specs.Terms.{size_of}
use Rattle.fp_conv.proofs.beta.+reduced.Given as goal

abbrev pub decreases-reduced : goal.decreases-reduced
decreases-reduced l = 2 * size_of l.term.now

abbrev pub decreases-reduced_application : goal.decreases-reduced_application
decreases-reduced_application l = 2 * (size_of l.fun.now + size_of l.arg.now) + 1

abbrev pub decreases-reduced_abstraction : goal.decreases-reduced_abstraction
decreases-reduced_abstraction l = 2 * size_of l.body.now + 1
