use Rattle.std.proofs.Common.{◌+◌, ◌*◌, length, drop}
use Rattle.fp_unify.specs.Facts.{AllBelow}
use Rattle.fp_unify.specs.Naming.{AreWithin, IsNamer, Showing}
use Rattle.fp_unify.proofs.naming.+show.Given as goal

abbrev pub decreases-show : goal.decreases-show
decreases-show l = 2 * l.room

abbrev pub decreases-show_all : goal.decreases-show_all
decreases-show_all l = 2 * l.room + 1

abbrev pub invariant-show_all-loop-at : goal.invariant-show_all-loop-at
invariant-show_all-loop-at l =
    record {
      inside : AllBelow (length l.cells) (drop l.at-index l.all);
      small : AreWithin l.cells (drop l.at-index l.all) l.room;
      namer : IsNamer l.cells l.written l.namer.next l.namer.pairs.items;
      showing : Showing l.cells l.written l.all (drop l.at-index l.all) l.fn.namer.pairs.items l.namer.pairs.items l.shown.items;
    }
