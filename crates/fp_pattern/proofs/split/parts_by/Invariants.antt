use Rattle.std.proofs.Common.{List, ◌++◌, drop}
use Rattle.fp_group.specs.declared.clause.Clause.{Clause}
use Rattle.fp_pattern.specs.Subtraction.{AreParts}
use Rattle.fp_pattern.proofs.split.parts_by.Given as goal

-- with what the other constructors give, the parts are those of all
abbrev pub invariant-loop-con : goal.invariant-loop-con
invariant-loop-con l =
    (rest : List Clause) → AreParts l.signature l.function l.clause l.name l.ty (drop l.con-index l.cons) rest →
    AreParts l.signature l.function l.clause l.name l.ty l.cons (l.parts ++ rest)
