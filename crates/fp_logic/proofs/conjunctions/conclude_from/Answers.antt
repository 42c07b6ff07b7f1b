use Rattle.fp_logic.proofs.Conjoined.{from_truths_asks}
use Rattle.fp_logic.proofs.conjunctions.conclude_from.Goals as goal

pub eq_mp_known-requires : goal.eq_mp_known-requires
eq_mp_known-requires c = rw c.in_ok-truths.ensures (from_truths_asks c.args.defs.now c.args.th.now c.requires)

pub returns : goal.returns
returns c = rw c.in_ok-truths.ensures at c.eq_mp_known.ensures
