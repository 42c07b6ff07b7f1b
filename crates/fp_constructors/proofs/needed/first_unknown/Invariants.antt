use Rattle.std.proofs.Common.{◌≡◌, drop}
use Rattle.fp_constructors.specs.Answers.{first_unknown}
use Rattle.fp_constructors.proofs.needed.first_unknown.Given as goal

abbrev pub invariant-loop-con : goal.invariant-loop-con
invariant-loop-con l = first_unknown l.signature (drop l.con-index l.cons) ≡ first_unknown l.signature l.cons
