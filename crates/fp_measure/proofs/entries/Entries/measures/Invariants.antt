use Rattle.std.proofs.Common.{◌≡◌, ◌++◌, drop}
use Rattle.fp_measure.specs.Sources.{measures_of}
use Rattle.fp_measure.proofs.entries.Entries.measures.Given as goal

abbrev pub invariant-loop-entry : goal.invariant-loop-entry
invariant-loop-entry l = l.found ++ measures_of (drop l.entry-index l.self) l.ty ≡ measures_of l.self l.ty
