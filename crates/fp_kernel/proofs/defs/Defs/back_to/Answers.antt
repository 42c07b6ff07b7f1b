use Rattle.fp_kernel.proofs.Oldest.{oldest_length, oldest_within}
use Rattle.fp_kernel.proofs.defs.Defs.back_to.Goals as goal

pub returns-clause-exact : goal.returns-clause-exact
returns-clause-exact c = c.leave.ensures

pub returns-clause-number : goal.returns-clause-number
returns-clause-number c = rw c.leave.ensures (oldest_length c.args.level c.args.self.now c.requires)

pub returns-clause-within : goal.returns-clause-within
returns-clause-within c = rw c.leave.ensures (oldest_within c.args.level c.args.self.now)
