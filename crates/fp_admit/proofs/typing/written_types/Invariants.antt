use Rattle.std.proofs.Common.{◌≡◌, take}
use Rattle.fp_admit.specs.Admitted.{typed_heads}
use Rattle.fp_admit.proofs.typing.written_types.Given as goal

abbrev pub invariant-loop-head : goal.invariant-loop-head
invariant-loop-head l = l.exact ≡ typed_heads (take l.head-index l.heads)
