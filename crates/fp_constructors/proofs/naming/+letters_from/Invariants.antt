use Rattle.std.proofs.Common.{length}
use Rattle.fp_constructors.proofs.naming.+letters_from.Given as goal

abbrev pub decreases-letters_from : goal.decreases-letters_from
decreases-letters_from l = length l.names.now
