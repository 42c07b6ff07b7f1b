use Rattle.std.proofs.Common.{◌+◌, ◌*◌}
use Rattle.fp_term.specs.Terms.{size_of}
use Rattle.fp_match.proofs.+match_onto.Given as goal

abbrev pub decreases-match_onto : goal.decreases-match_onto
decreases-match_onto l = 2 * size_of l.pattern.now

abbrev pub decreases-match_application : goal.decreases-match_application
decreases-match_application l = 2 * (size_of l.fun.now + size_of l.arg.now) + 1

abbrev pub decreases-match_abstraction : goal.decreases-match_abstraction
decreases-match_abstraction l = 2 * size_of l.body.now + 1
