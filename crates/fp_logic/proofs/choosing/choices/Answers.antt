use Rattle.fp_logic.proofs.Choosers.{choices_ask}
use Rattle.fp_logic.proofs.choosing.choices.Goals as goal

pub both_hold-requires : goal.both_hold-requires
both_hold-requires c = c.requires

pub mk_comb_known-requires : goal.mk_comb_known-requires
mk_comb_known-requires c = rw (c.in_ok-both.ensures, c.in_ok-own.ensures) (choices_ask c.args.defs.now c.args.a.now c.args.first c.args.left.now c.args.right.now)

pub returns : goal.returns
returns c = rw (c.in_ok-both.ensures, c.in_ok-own.ensures) at c.mk_comb_known.ensures
