use Rattle.std.proofs.Common.{◌≡◌, map, take}
use Rattle.fp_outcome.specs.Parts.{part_of}
use Rattle.fp_outcome.proofs.parts.parts.Given as goal

abbrev pub invariant-loop-rank : goal.invariant-loop-rank
invariant-loop-rank l = l.parts ≡ map (part_of l.measures) (take l.rank-index l.ranks)
