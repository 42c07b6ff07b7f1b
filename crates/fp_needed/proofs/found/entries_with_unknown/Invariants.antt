use Rattle.std.proofs.Common.{◌≡◌, map, take}
use Rattle.fp_needed.specs.Needed.{entry_or_unknown}
use Rattle.fp_needed.proofs.found.entries_with_unknown.Given as goal

abbrev pub invariant-loop-entry : goal.invariant-loop-entry
invariant-loop-entry l = l.entries.items ≡ map entry_or_unknown (take l.entry-index l.p.known.items)
