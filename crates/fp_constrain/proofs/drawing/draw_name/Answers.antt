use Rattle.fp_constrain.proofs.Drawn.{draws_name, draws_at}
use Rattle.fp_constrain.proofs.drawing.draw_name.Goals as goal

pub returns-clause-draws : goal.returns-clause-draws
returns-clause-draws c = λ p. let a = c.in_ok-advance.ensures in draws_at _ _ _ _ _ _ _ _ _ _ _ _ _ _ _ (draws_name _ _ _ _ _ _ _ _ _ _ p _ c.requires.counted c.in_ok-at.ensures.leaf) a.next a.facts a.seen
