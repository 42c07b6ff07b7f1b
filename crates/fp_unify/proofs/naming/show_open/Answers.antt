use Rattle.fp_unify.proofs.Named.{shows_known_at, namer_put, shows_put}
use Rattle.fp_unify.proofs.naming.show_open.Goals as goal

pub returns-in-Some-clause-shows : goal.returns-in-Some-clause-shows
returns-in-Some-clause-shows c = shows_known_at _ _ _ _ _ _ _ _ c.in_ok-ty.ensures c.in_ok-name.ensures c.in-Some.ensures c.as_slice.ensures.value

pub returns-clause-namer : goal.returns-clause-namer
returns-clause-namer c =
    let n = c.in_ok-name-2.ensures in
    namer_put _ _ _ _ _ _ _ _ _ _ c.requires.unknown c.in_default.ensures c.as_slice.ensures.value c.requires.namer n.names c.in_ok-copy.ensures c.in_ok-push.ensures.items

pub returns-clause-shows : goal.returns-clause-shows
returns-clause-shows c =
    let n = c.in_ok-name-2.ensures in
    shows_put _ _ _ _ _ _ _ _ _ c.requires.namer n.unwritten n.unused c.in_ok-copy.ensures c.in_ok-push.ensures.items c.in_ok-ty-2.ensures
