use Rattle.std.proofs.Common.{◌≡◌, subst}
use Rattle.std.specs.Prelude.{IfOk}
use Rattle.fp_kernel.specs.Theorems.{Theorem}
use Rattle.fp_disjunction.proofs.Joined.{second_twice, second_gives}
use Rattle.fp_disjunction.proofs.joining.second_replaced.Goals as goal

pub own_or_at-requires : goal.own_or_at-requires
own_or_at-requires c = c.requires.formula

pub mk_comb_known-requires : goal.mk_comb_known-requires
mk_comb_known-requires c = rw c.in_ok-once.ensures (second_twice c.args.defs.now c.args.th.now c.args.term.now c.requires.held)

pub returns : goal.returns
returns c =
    subst (λ (x : Theorem). IfOk c.mk_comb_known.result (λ th. th ≡ x)) (second_gives c.args.defs.now c.args.th.now c.args.term.now c.requires.held c.hyps-hyps.ensures.set c.promises-promises.ensures.set) (rw c.in_ok-once.ensures at c.mk_comb_known.ensures)
