use Rattle.std.proofs.Common.{◌≡◌, subst}
use Rattle.std.specs.Prelude.{IfOk}
use Rattle.fp_kernel.specs.Theorems.{Theorem}
use Rattle.fp_quant.proofs.Functions.{right_asks, right_gives}
use Rattle.fp_quant.proofs.extensional.right_reduced.Goals as goal

pub trans_known-requires : goal.trans_known-requires
trans_known-requires c =
    let f = c.args.functions.now in
    rw c.in_ok-eta.ensures (right_asks c.args.defs.now f.from.now f.to.now f.left.now f.right.now c.args.th.now c.requires.within c.requires.shape)

pub returns : goal.returns
returns c =
    let f = c.args.functions.now in
    let is = right_gives c.args.defs.now f.from.now f.to.now f.left.now f.right.now c.args.th.now c.requires.shape in
    subst (λ (x : Theorem). IfOk c.trans_known.result (λ r. r ≡ x)) is (rw c.in_ok-eta.ensures at c.trans_known.ensures)
