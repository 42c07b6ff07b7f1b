use Rattle.fp_kernel.proofs.Oldest.{shorter_fits, shorter_is}
use Rattle.fp_kernel.proofs.defs.Defs.shorten.Goals as goal

pub invariant_of-self : goal.invariant_of-self
invariant_of-self c = shorter_fits c.args.level c.self.inside.level c.self.inside.list c.self.invariant (rw (← c.self.view_is) at c.requires)

pub returns : goal.returns
returns c = rw (← c.self.view_is) (shorter_is c.args.level c.self.inside.level c.self.inside.list c.self.invariant (rw (← c.self.view_is) at c.requires))
