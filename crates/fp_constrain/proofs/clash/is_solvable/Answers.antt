use Rattle.fp_constrain.proofs.Clashing.{solvable_or_not}
use Rattle.fp_constrain.proofs.clash.is_solvable.Goals as goal

pub returns : goal.returns
returns c = solvable_or_not (λ v. v.items) _ _ _ c.in_ok-found.found _ c.in_ok-found.ensures c.is_some.ensures
