use Rattle.std.proofs.Common.{◌≡◌, map, take}
use Rattle.fp_level.specs.Counts.{set_count}
use Rattle.fp_level.proofs.candidates.set_counts.Given as goal

abbrev pub invariant-loop-measures : goal.invariant-loop-measures
invariant-loop-measures l = l.counts.items ≡ map set_count (take l.measures-index l.functions)
