use Rattle.std.proofs.Common.{take}
use Rattle.fp_kernel.specs.Start.{signature_of}
use Rattle.fp_admit.specs.Admitted.{AreEach, IsTyped}
use Rattle.fp_admit.proofs.typing.typed_each.Given as goal

abbrev pub invariant-loop-raw : goal.invariant-loop-raw
invariant-loop-raw l = AreEach (IsTyped (signature_of l.theory.defs) l.exact) (take l.raw-index l.clauses) l.terms
