use Rattle.std.proofs.Common.{◌≡◌, drop}
use Rattle.fp_outside.specs.Held.{file_in}
use Rattle.fp_outside.specs.View.{entries_of}
use Rattle.fp_outside.proofs.memory.place_of.Given as goal

abbrev pub invariant-loop-file : goal.invariant-loop-file
invariant-loop-file l =
    file_in (entries_of (drop l.file l.entries)) l.name ≡ file_in (entries_of l.entries) l.name
