use Rattle.std.proofs.Common.{◌+◌, ◌*◌}
use Rattle.fp_term.specs.Terms.{size_of}
use Rattle.fp_normal.proofs.normal.+passed.Given as goal

abbrev pub decreases-passed : goal.decreases-passed
decreases-passed l = 2 * size_of l.term.now

abbrev pub decreases-passed_application : goal.decreases-passed_application
decreases-passed_application l = 2 * (size_of l.fun.now + size_of l.arg.now) + 1

abbrev pub decreases-passed_abstraction : goal.decreases-passed_abstraction
decreases-passed_abstraction l = 2 * size_of l.body.now + 1
