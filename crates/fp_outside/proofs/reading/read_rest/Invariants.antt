use Rattle.std.proofs.Common.{◌≡◌, ◌≤◌, ◌-◌, IsTrue, vec_len}
use Rattle.std.specs.Io.KnownBytes.{Consumes}
use Rattle.fp_outside.proofs.reading.read_rest.Given as goal

abbrev pub invariant-loop-count : goal.invariant-loop-count
invariant-loop-count g l = record {
  whole : Consumes (g.F.Files.left l.fn.files) (g.F.Files.left l.files) l.bytes.items;
  fits : vec_len l.bytes ≤ l.room;
  counts : g.F.Files.faults l.files ≡ g.F.Files.faults l.fn.files;
  named : g.F.Files.named l.files ≡ g.F.Files.named l.fn.files;
  held : g.F.Files.held l.files ≡ g.F.Files.held l.fn.files;
  opened : g.F.Files.opened l.files ≡ g.F.Files.opened l.fn.files;
  current : IsTrue (g.F.Files.current l.files);
}

abbrev pub decreases-loop-count : goal.decreases-loop-count
decreases-loop-count g l = l.room - vec_len l.bytes
