use Rattle.std.proofs.Common.{◌≡◌, length}
use Rattle.fp_order.specs.Grid.{cells_of}
use Rattle.fp_shown.proofs.Needs.{holes}
use Rattle.fp_needed.specs.Needed.{IsOnTheWay}
use Rattle.fp_needed.proofs.settling.needed.Given as goal

abbrev pub invariant-loop-known : goal.invariant-loop-known
invariant-loop-known l = record {
  len : length l.known.items ≡ length (cells_of l.g);
  way : IsOnTheWay l.g l.rules l.cells l.known.items;
}

abbrev pub decreases-loop-known : goal.decreases-loop-known
decreases-loop-known l = holes l.known.items
