use Rattle.std.proofs.Common.{◌≡◌, subst}
use Rattle.std.specs.Prelude.{IfOk}
use Rattle.fp_kernel.specs.Theorems.{Theorem}
use Rattle.fp_logic.proofs.Turning.{carry_asks, carry_last, carry_gives}
use Rattle.fp_logic.proofs.holding.carry.Goals as goal

pub turn-requires : goal.turn-requires
turn-requires c = rw c.in_ok-equality.ensures (carry_asks c.args.defs.now c.args.first.now c.args.second.now c.args.own.now c.args.third.now c.requires)

pub eq_mp_known-requires : goal.eq_mp_known-requires
eq_mp_known-requires c = rw c.in_ok-turned.ensures (carry_last c.args.defs.now c.args.first.now c.args.second.now c.args.own.now c.args.third.now c.requires)

pub returns : goal.returns
returns c =
    let is = carry_gives c.args.defs.now c.args.first.now c.args.second.now c.args.own.now c.args.third.now c.requires in
    subst (λ (x : Theorem). IfOk c.eq_mp_known.result (λ th. th ≡ x)) is (rw c.in_ok-turned.ensures at c.eq_mp_known.ensures)
