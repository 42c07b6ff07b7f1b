use Rattle.std.proofs.Common.{◌+◌, ◌*◌}
use Rattle.fp_term.specs.Terms.{size_of}
use Rattle.fp_conv.proofs.outermost.+rewritten.Given as goal

abbrev pub decreases-rewritten : goal.decreases-rewritten
decreases-rewritten l = 3 * size_of l.term.now + 1

abbrev pub decreases-inside : goal.decreases-inside
decreases-inside l = 3 * size_of l.term.now

abbrev pub decreases-application : goal.decreases-application
decreases-application l = 3 * (size_of l.fun.now + size_of l.arg.now) + 2

abbrev pub decreases-abstraction : goal.decreases-abstraction
decreases-abstraction l = 3 * size_of l.body.now + 2
