use Rattle.std.proofs.Common.{◌≡◌, subst}
use Rattle.std.specs.Prelude.{IfOk}
use Rattle.fp_term.specs.Terms.{Tm}
use Rattle.fp_kernel.specs.Theorems.{plain}
use Rattle.fp_logic.proofs.Choosers.{twice_asks, twice_is}
use Rattle.fp_logic.proofs.choosing.chosen_twice.Goals as goal

pub unfold-requires : goal.unfold-requires
unfold-requires c = rw (c.in_ok-once.ensures, c.in_ok-second.ensures) (twice_asks c.args.defs.now c.args.first)

pub returns : goal.returns
returns c =
    subst (λ (x : Tm). IfOk c.unfold.result (λ th. th ≡ plain c.args.defs.now x)) (twice_is c.args.first) (rw (c.in_ok-once.ensures, c.in_ok-second.ensures) at c.unfold.ensures)
