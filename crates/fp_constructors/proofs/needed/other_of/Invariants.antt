use Rattle.std.proofs.Common.{◌≡◌, [], take, drop}
use Rattle.fp_constructors.specs.Answers.{first_other}
use Rattle.fp_constructors.proofs.needed.other_of.Given as goal

abbrev pub invariant-loop-at : goal.invariant-loop-at
invariant-loop-at l = first_other l.signature l.ty.name (take l.at l.cons) (drop l.at l.cons) ≡ first_other l.signature l.ty.name [] l.cons
