use Rattle.std.proofs.Common.{◌≡◌, ◌+◌, ◌≤◌, length, drop}
use Rattle.fp_constrain.specs.Draws.{number_among}
use Rattle.fp_constrain.proofs.drawing.number_among.Given as goal

abbrev pub invariant-loop-known : goal.invariant-loop-known
invariant-loop-known l = (number_among l.names l.name ≡ l.known-index + number_among (drop l.known-index l.names) l.name) × (l.number ≡ l.known-index) × (l.known-index ≤ length l.names)
