use Rattle.std.proofs.Common.{length}
use Rattle.fp_order.specs.Grid.{columns_of}
use Rattle.fp_shown.specs.Shown.{number_on}
use Rattle.fp_shown.proofs.Longest as longest
use Rattle.fp_shown.proofs.Inside.{inside_grid}
use Rattle.fp_shown.proofs.laws.shown_stays.Goals as goal

pub returns : goal.returns
returns c = λ known more l k. let g = c.args.g.now in
    longest.shown_stays (number_on g) (length (columns_of g.functions)) (length g.rows) known more (inside_grid g known c.requires l) k
