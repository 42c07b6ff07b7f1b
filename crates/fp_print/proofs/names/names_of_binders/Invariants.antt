use Rattle.std.proofs.Common.{◌≡◌}
use Rattle.fp_print.specs.Names.{place_of, binder_names}
use Rattle.fp_print.proofs.names.names_of_binders.Given as goal

abbrev pub invariant-loop-outer : goal.invariant-loop-outer
invariant-loop-outer l = (l.place ≡ place_of l.used l._outer) × (l.names ≡ binder_names l.used l._outer)
