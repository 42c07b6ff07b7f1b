use Rattle.fp_admit.specs.Admitted.{IsHeadOf}
use Rattle.fp_admit.proofs.Each.{each_length}
use Rattle.fp_admit.proofs.admitting.made.Goals as goal

pub group_of-requires : goal.group_of-requires
group_of-requires c = rw (each_length IsHeadOf c.as_slice-2.result.now c.in_ok-parts.parts.heads c.in_ok-parts.ensures.heads) c.in_ok-parts.ensures.clauses
