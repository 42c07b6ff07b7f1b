use Rattle.std.proofs.Common.{refl, ap}
use Rattle.fp_constrain.specs.Subterms.{plain_option}
use Rattle.fp_constrain.proofs.Drawn.{binds_any, binds_written, binds_at}
use Rattle.fp_constrain.proofs.drawing.binder_type.Goals as goal

pub returns-in_ok-at-in-None-clause-binds : goal.returns-in_ok-at-in-None-clause-binds
returns-in_ok-at-in-None-clause-binds c =
    let f = c.in_ok-at-in-None.ensures in
    binds_at _ _ _ _ _ _ _ _ _ _ (binds_any _ _ c.requires) f.next f.facts f.value (ap plain_option c.in-None.is)

pub returns-in_ok-at-in-Some-clause-binds : goal.returns-in_ok-at-in-Some-clause-binds
returns-in_ok-at-in-Some-clause-binds c = binds_at _ _ _ _ _ _ _ _ _ _ (binds_written _ _ _ _ _ _ c.in_ok-at-in-Some.ensures.lays) refl refl refl (ap plain_option c.in-Some.is)
