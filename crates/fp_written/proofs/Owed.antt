-- What two stacks owe together.
use Rattle.std.proofs.Common.{◌≡◌, ◌+◌, List, [], ◌∷◌, ◌++◌, arith}
use Rattle.fp_written.specs.Symbols.{Symbol}
use Rattle.fp_written.specs.Machine.{owed}

pub owed_append : (xs ys : List Symbol) → owed (xs ++ ys) ≡ owed xs + owed ys
owed_append [] ys = omega arith
owed_append (x ∷ xs) ys = rw (owed_append xs ys) (omega arith)
