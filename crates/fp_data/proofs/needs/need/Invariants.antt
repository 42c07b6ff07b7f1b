use Rattle.std.proofs.Common.{◌≡◌, drop}
use Rattle.std.specs.Prelude.{map}
use Rattle.fp_constructors.specs.Answers.{named}
use Rattle.fp_data.specs.Lacking.{first_lacking}
use Rattle.fp_data.proofs.needs.need.Given as goal

abbrev pub invariant-loop-needed : goal.invariant-loop-needed
invariant-loop-needed l = first_lacking l.theory.named (map named (drop l.needed-index l.table)) ≡ first_lacking l.theory.named (map named l.table)
