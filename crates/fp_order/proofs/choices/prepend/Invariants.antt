use Rattle.std.proofs.Common.{◌≡◌, ◌∷◌, ◌++◌, take, map}
use Rattle.fp_order.specs.Grid.{prefixed}
use Rattle.fp_order.proofs.choices.prepend.Given as goal

abbrev pub invariant-loop-later : goal.invariant-loop-later
invariant-loop-later l = l.all.items ≡ take l.limit (prefixed l.number l.rest ++ map (λ xs. l.number ∷ xs) (take l.later-index l.rest))

abbrev pub invariant-loop-number : goal.invariant-loop-number
invariant-loop-number l = l.all.items ≡ take l.limit (prefixed l.number l.rest)
