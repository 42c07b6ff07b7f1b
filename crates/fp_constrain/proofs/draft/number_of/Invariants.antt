use Rattle.std.proofs.Common.{◌≡◌, drop}
use Rattle.fp_constrain.specs.Drafts.{found_number}
use Rattle.fp_constrain.proofs.draft.number_of.Given as goal

abbrev pub invariant-loop-pair : goal.invariant-loop-pair
invariant-loop-pair l = found_number l.name l.table ≡ found_number l.name (drop l.pair-index l.table)
