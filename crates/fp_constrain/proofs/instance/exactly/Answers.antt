use Rattle.fp_constrain.proofs.Drawn.{exact_at}
use Rattle.fp_constrain.proofs.instance.exactly.Goals as goal

pub returns-clause-leaf : goal.returns-clause-leaf
returns-clause-leaf c =
    let l = c.in_ok-known.ensures in
    let s = c.in_ok-at.ensures in
    exact_at _ _ _ _ _ _ _ _ _ _ _ l.lays l.step s.next s.facts s.value
