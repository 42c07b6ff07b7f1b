use Rattle.std.proofs.Common.{◌∙◌, ap}
use Rattle.fp_conclude.specs.Shapes.{right}
use Rattle.fp_kernel.proofs.Unchecked.{by_eq_mp}
use Rattle.fp_kernel.proofs.defs.Defs.eq_mp_known.Goals as goal

pub over_both-requires : goal.over_both-requires
over_both-requires c =
    by_eq_mp c.args.first.now c.args.second.now c.concl.ensures.derived c.concl-premise.ensures.derived c.requires c.in_ok-concl.concl
    (c.in_ok-concl.ensures ∙ c.right.ensures ∙ ap right c.concl.ensures.value)
