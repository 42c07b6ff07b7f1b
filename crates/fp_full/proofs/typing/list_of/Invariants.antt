use Rattle.std.proofs.Common.{◌≡◌, vec_len}
use Rattle.fp_full.specs.Machine.{onto, typs}
use Rattle.fp_full.proofs.typing.list_of.Given as goal

abbrev pub invariant-loop-ty : goal.invariant-loop-ty
invariant-loop-ty l = onto l.args.items l.tys ≡ typs l.fn.args.items

abbrev pub decreases-loop-ty : goal.decreases-loop-ty
decreases-loop-ty l = vec_len l.args
