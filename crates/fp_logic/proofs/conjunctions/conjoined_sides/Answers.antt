use Rattle.std.proofs.Common.{◌≡◌, subst}
use Rattle.std.specs.Prelude.{IfOk}
use Rattle.fp_kernel.specs.Theorems.{Theorem}
use Rattle.fp_logic.proofs.Conjoined.{once_asks, twice_asks, twice_gives}
use Rattle.fp_logic.proofs.conjunctions.conjoined_sides.Goals as goal

pub mk_comb_known-requires : goal.mk_comb_known-requires
mk_comb_known-requires c = rw c.in_ok-own.ensures (once_asks c.args.defs.now c.args.first.now c.requires.first)

pub mk_comb_known-requires-2 : goal.mk_comb_known-requires-2
mk_comb_known-requires-2 c = rw (c.in_ok-once.ensures, c.in_ok-own.ensures) (twice_asks c.args.defs.now c.args.first.now c.args.second.now c.requires.first c.requires.second)

pub returns : goal.returns
returns c =
    let is = twice_gives c.args.defs.now c.args.first.now c.args.second.now c.requires.first c.requires.second c.hyps-hyps.ensures.set c.promises-promises.ensures.set in
    subst (λ (x : Theorem). IfOk c.mk_comb_known-2.result (λ th. th ≡ x)) is (rw (c.in_ok-once.ensures, c.in_ok-own.ensures) at c.mk_comb_known-2.ensures)
