use Rattle.fp_kernel.specs.Derivability.{first, promise_of}
use Rattle.fp_kernel.proofs.defs.Defs.promise_known.Goals as goal

pub theorem-requires-clause-derived : goal.theorem-requires-clause-derived
theorem-requires-clause-derived c =
    rw (c.in_ok-push.ensures.ok, c.new-promises.ensures, c.in_ok-copy.ensures, c.new.ensures, c.in_ok-copy-2.ensures) (promise_of first c.requires)
