use Rattle.std.proofs.Common.{◌≡◌, drop}
use Rattle.fp_measure.specs.Sources.{is_entry}
use Rattle.fp_measure.proofs.entries.is_entry.Given as goal

abbrev pub invariant-loop-entry : goal.invariant-loop-entry
invariant-loop-entry l = is_entry l.ty l.term (drop l.entry-index l.entries) ≡ is_entry l.ty l.term l.entries
