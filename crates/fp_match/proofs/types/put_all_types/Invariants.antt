use Rattle.std.proofs.Common.{◌≡◌, drop}
use Rattle.fp_match.specs.Walk.{put_types}
use Rattle.fp_match.proofs.types.put_all_types.Given as goal

abbrev pub invariant-loop-pair : goal.invariant-loop-pair
invariant-loop-pair l = put_types l.types (drop l.pair-index l.pairs) ≡ put_types l.initial.types l.pairs
