use Rattle.fp_unify.proofs.Named.{listed_pop}
use Rattle.fp_unify.proofs.naming.types_of.Goals as goal

pub loop-ty-preserved : goal.loop-ty-preserved
loop-ty-preserved c = listed_pop _ _ _ _ _ _ c.in-Some.ensures.items c.in_ok-all-2.ensures c.loop-ty.invariant
