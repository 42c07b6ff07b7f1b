use Rattle.std.proofs.Common.{◌≡◌}
use Rattle.fp_print.specs.Names.{place_of}
use Rattle.fp_print.proofs.names.place_of.Given as goal

abbrev pub invariant-loop-outer : goal.invariant-loop-outer
invariant-loop-outer l = l.place ≡ place_of l.used l._outer
