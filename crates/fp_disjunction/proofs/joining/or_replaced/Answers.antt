use Rattle.std.proofs.Common.{◌≡◌, subst}
use Rattle.std.specs.Prelude.{IfOk}
use Rattle.fp_kernel.specs.Theorems.{Theorem}
use Rattle.fp_disjunction.proofs.Joined.{first_once, once_gives}
use Rattle.fp_disjunction.proofs.joining.or_replaced.Goals as goal

pub mk_comb_known-requires : goal.mk_comb_known-requires
mk_comb_known-requires c = rw c.in_ok-or.ensures (first_once c.args.defs.now c.args.th.now c.requires)

pub returns : goal.returns
returns c =
    subst (λ (x : Theorem). IfOk c.mk_comb_known.result (λ th. th ≡ x)) (once_gives c.args.defs.now c.args.th.now c.requires c.hyps-hyps.ensures.set c.promises-promises.ensures.set) (rw c.in_ok-or.ensures at c.mk_comb_known.ensures)
