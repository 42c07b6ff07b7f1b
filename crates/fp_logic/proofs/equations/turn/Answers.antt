use Rattle.std.proofs.Common.{◌≡◌, subst}
use Rattle.std.specs.Prelude.{IfOk}
use Rattle.fp_kernel.specs.Theorems.{Theorem}
use Rattle.fp_logic.proofs.Turning.{turn_first, turn_second, turn_last, turn_gives}
use Rattle.fp_logic.proofs.equations.turn.Goals as goal

pub mk_comb_known-requires : goal.mk_comb_known-requires
mk_comb_known-requires c = turn_first c.args.defs.now c.args.equality.now c.args.first.now c.args.second.now c.args.own.now c.requires

pub mk_comb_known-requires-2 : goal.mk_comb_known-requires-2
mk_comb_known-requires-2 c = rw c.in_ok-applied.ensures (turn_second c.args.defs.now c.args.equality.now c.args.first.now c.args.second.now c.args.own.now c.requires)

pub eq_mp_known-requires : goal.eq_mp_known-requires
eq_mp_known-requires c = rw (c.in_ok-both.ensures, c.in_ok-applied.ensures) (turn_last c.args.defs.now c.args.equality.now c.args.first.now c.args.second.now c.args.own.now c.requires)

pub returns : goal.returns
returns c =
    let is = turn_gives c.args.defs.now c.args.equality.now c.args.first.now c.args.second.now c.args.own.now c.requires c.hyps-hyps.ensures.set c.promises-promises.ensures.set in
    subst (λ (x : Theorem). IfOk c.eq_mp_known.result (λ th. th ≡ x)) is (rw (c.in_ok-both.ensures, c.in_ok-applied.ensures) at c.eq_mp_known.ensures)
