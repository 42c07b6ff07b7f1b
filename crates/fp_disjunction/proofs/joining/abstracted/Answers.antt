use Rattle.fp_disjunction.proofs.Joined.{abstract_asks, abstract_gives}
use Rattle.fp_disjunction.proofs.joining.abstracted.Goals as goal

pub lam_known-requires : goal.lam_known-requires
lam_known-requires c = rw (c.in_ok-name.ensures, c.in_ok-ty.ensures) (abstract_asks c.args.defs.now c.args.th.now c.requires)

pub returns : goal.returns
returns c = abstract_gives c.args.defs.now c.args.th.now c.lam_known.result c.requires (rw (c.in_ok-name.ensures, c.in_ok-ty.ensures) at c.lam_known.ensures)
