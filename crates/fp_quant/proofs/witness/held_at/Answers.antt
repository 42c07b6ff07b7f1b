use Rattle.std.proofs.Common.{refl}
use Rattle.fp_quant.proofs.witness.held_at.Goals as goal

pub applied-requires-clause-abstraction : goal.applied-requires-clause-abstraction
applied-requires-clause-abstraction c = c.requires.abstraction

pub applied-requires-clause-typed : goal.applied-requires-clause-typed
applied-requires-clause-typed c = c.requires.typed

pub fold-requires : goal.fold-requires
fold-requires c = rw c.in_ok-equation.ensures (refl, c.requires.within, c.requires.shape)

pub returns : goal.returns
returns c = rw c.in_ok-equation.ensures at c.fold.ensures
