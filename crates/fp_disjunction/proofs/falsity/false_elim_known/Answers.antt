use Rattle.std.proofs.Common.{refl}
use Rattle.fp_disjunction.proofs.falsity.false_elim_known.Goals as goal

pub established-requires-clause-first : goal.established-requires-clause-first
established-requires-clause-first c = rw c.in_ok-against.ensures refl

pub established-requires-clause-second : goal.established-requires-clause-second
established-requires-clause-second c = rw c.in_ok-equation.ensures refl

pub established-requires-clause-shape : goal.established-requires-clause-shape
established-requires-clause-shape c = rw c.in_ok-against.ensures refl

pub established-requires-clause-equation : goal.established-requires-clause-equation
established-requires-clause-equation c = rw (c.in_ok-equation.ensures, c.in_ok-against.ensures) refl

pub returns : goal.returns
returns c = rw (c.in_ok-equation.ensures, c.in_ok-against.ensures) at c.established.ensures
