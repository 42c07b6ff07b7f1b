use Rattle.std.proofs.Common.{◌+◌, ◌*◌, length}
use Rattle.fp_conv.proofs.at_place.+rewritten.Given as goal

abbrev pub decreases-rewritten : goal.decreases-rewritten
decreases-rewritten l = 2 * length l.steps.now

abbrev pub decreases-in_abstraction : goal.decreases-in_abstraction
decreases-in_abstraction l = 2 * length l.rest.now + 1
