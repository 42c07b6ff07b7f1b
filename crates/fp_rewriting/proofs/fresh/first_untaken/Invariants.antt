use Rattle.std.proofs.Common.{◌≡◌, ◌-◌}
use Rattle.fp_rewriting.specs.Fresh.{first_untaken}
use Rattle.fp_rewriting.proofs.fresh.first_untaken.Given as goal

abbrev pub invariant-loop-tried : goal.invariant-loop-tried
invariant-loop-tried l = first_untaken l.tries l.names l.term 1 ≡ first_untaken (l.tries - l._tried) l.names l.term l.number
