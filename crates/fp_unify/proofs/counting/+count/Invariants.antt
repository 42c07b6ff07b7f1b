use Rattle.std.proofs.Common.{◌≡◌, ◌+◌, ◌*◌, ◌≤◌, ℕ, length, drop}
use Rattle.fp_term.specs.Types.{Typ}
use Rattle.fp_unify.specs.Facts.{AllBelow, types_at}
use Rattle.fp_unify.specs.Nodes.{types_nodes, Single}
use Rattle.fp_unify.proofs.counting.+count.Given as goal

abbrev pub decreases-all_within : goal.decreases-all_within
decreases-all_within l = 2 * l.room + 1

abbrev pub decreases-nodes_within : goal.decreases-nodes_within
decreases-nodes_within l = 2 * l.room

abbrev pub invariant-all_within-loop-at : goal.invariant-all_within-loop-at
invariant-all_within-loop-at l =
    record {
      less : l.left ≤ l.fn.room;
      inside : AllBelow (length l.cells) (drop l.at-index l.all);
      nodes : (w : ℕ → Typ) → Single w l.cells → l.left + types_nodes (types_at w l.all) ≡ l.fn.room + types_nodes (types_at w (drop l.at-index l.all));
    }
