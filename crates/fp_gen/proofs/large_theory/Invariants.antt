use Rattle.std.proofs.Common.{◌≡◌, ◌+◌, ◌++◌}
use Rattle.fp_gen.specs.Generated.{lines_after}
use Rattle.fp_gen.proofs.large_theory.Given as goal

abbrev pub invariant-loop-left : goal.invariant-loop-left
invariant-loop-left l = (l.i + l.left ≡ l.n) × (l.text.items ++ lines_after l.i l.word l.left ≡ lines_after 0 l.seed l.n)

abbrev pub decreases-loop-left : goal.decreases-loop-left
decreases-loop-left l = l.left
