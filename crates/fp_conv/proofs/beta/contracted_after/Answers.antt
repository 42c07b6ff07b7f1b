use Rattle.std.proofs.Common.{◌∙◌, sym}
use Rattle.fp_conv.proofs.Reduced.{right_typed}
use Rattle.fp_conv.proofs.Passed.{not_contracted, then_contracted}
use Rattle.fp_conv.proofs.beta.contracted_after.Goals as goal

pub beta_known-requires-clause-typed : goal.beta_known-requires-clause-typed
beta_known-requires-clause-typed c = right_typed c.concl.result.now c.right_side-right.result.now c.requires c.concl.ensures.formula c.concl.ensures.value c.right_side-right.ensures

pub returns-then-not-is_redex-clause-contracted : goal.returns-then-not-is_redex-clause-contracted
returns-then-not-is_redex-clause-contracted c =
    not_contracted c.concl.result.now c.right_side-right.result.now c.args.made c.concl.ensures.value c.right_side-right.ensures (sym c.is_redex.ensures ∙ c.if-not-is_redex.true)

pub returns-clause-contracted : goal.returns-clause-contracted
returns-clause-contracted c =
    then_contracted c.concl.result.now c.right_side-right.result.now c.args.made c.in_ok-next.next c.joined.result c.concl.ensures.value c.right_side-right.ensures c.in_ok-next.ensures.contracted c.joined.ensures.last
