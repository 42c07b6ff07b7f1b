use Rattle.std.proofs.Common.{◌≡◌, ◌-◌, ◌≤◌, drop}
use Rattle.fp_shapes.specs.Sums.{project}
use Rattle.fp_shapes.proofs.injections.project.Given as goal

abbrev pub invariant-loop-at : goal.invariant-loop-at
invariant-loop-at l = (l.at ≤ l.index) × (project (drop l.at l.tys) (l.index - l.at) l.made ≡ project l.tys l.index l.term)
