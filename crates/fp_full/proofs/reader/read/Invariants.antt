use Rattle.fp_full.specs.Views.{asked, phase_of}
use Rattle.fp_full.proofs.Answering.{Reached}
use Rattle.fp_full.proofs.reader.read.Given as goal

abbrev pub invariant-loop-at : goal.invariant-loop-at
invariant-loop-at l = Reached (asked l.fn.kind) l.bytes l.at (phase_of l.progress.phase) l.progress.depth
