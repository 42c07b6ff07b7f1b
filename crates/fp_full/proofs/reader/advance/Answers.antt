use Rattle.fp_full.specs.Views.{phase_of}
use Rattle.fp_full.proofs.Answering.{longer_open}
use Rattle.fp_full.proofs.reader.advance.Goals as goal

pub within_limits-requires : goal.within_limits-requires
within_limits-requires c =
    longer_open (phase_of c.args.progress.phase) (phase_of c.in-Ok-Some.next) c.args.byte c.args.at (rw c.in-Ok-Some.field-0-is at c.in-Ok-Some.ensures) c.requires.open
