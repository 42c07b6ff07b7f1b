use Rattle.std.proofs.Common.{length}
use Rattle.fp_run.proofs.asking.+can_name_files.Given as goal

abbrev pub decreases-can_name_files : goal.decreases-can_name_files
decreases-can_name_files l = length l.names.now
