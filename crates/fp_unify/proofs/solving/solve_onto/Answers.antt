use Rattle.std.proofs.Common.{refl}
use Rattle.fp_unify.proofs.Solutions.{unsolvable, solution}
use Rattle.fp_unify.proofs.solving.solve_onto.Goals as goal

pub returns-then-not-branch : goal.returns-then-not-branch
returns-then-not-branch c = unsolvable _ _ _ _ c.requires.unknown (rw c.if-not-branch.true at c.in_ok-add_all.ensures)

pub returns : goal.returns
returns c = solution _ _ _ _ _ _ c.requires.unknown refl (rw c.if-not-branch.false at c.in_ok-add_all.ensures) c.in_ok-settled.ensures
