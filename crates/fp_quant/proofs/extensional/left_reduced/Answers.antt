use Rattle.std.proofs.Common.{◌≡◌, subst}
use Rattle.std.specs.Prelude.{IfOk}
use Rattle.fp_kernel.specs.Theorems.{Theorem}
use Rattle.fp_quant.proofs.Functions.{left_asks, left_gives}
use Rattle.fp_quant.proofs.extensional.left_reduced.Goals as goal

pub trans_known-requires : goal.trans_known-requires
trans_known-requires c =
    let f = c.args.functions.now in
    rw c.in_ok-expanded.ensures (left_asks c.args.defs.now f.from.now f.to.now f.left.now f.right.now c.args.th.now c.requires.within c.requires.shape)

pub returns : goal.returns
returns c =
    let f = c.args.functions.now in
    let is = left_gives c.args.defs.now f.from.now f.to.now f.left.now f.right.now c.args.th.now c.requires.shape c.hyps-hyps.ensures.set c.promises-promises.ensures.set in
    subst (λ (x : Theorem). IfOk c.trans_known.result (λ r. r ≡ x)) is (rw c.in_ok-expanded.ensures at c.trans_known.ensures)
