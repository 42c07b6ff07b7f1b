use Rattle.fp_conclude.specs.Logic.{truth_type}
use Rattle.fp_logic.proofs.Turning.{establish_over, left_typed}
use Rattle.fp_logic.proofs.choosing.established.Goals as goal

pub refl_known-requires : goal.refl_known-requires
refl_known-requires c = (truth_type, rw (c.left.ensures, c.concl.ensures.value) (left_typed c.args.defs.now c.args.against.now c.requires.first c.concl.ensures.derived c.requires.shape))

pub establish-requires : goal.establish-requires
establish-requires c =
    let h = left_typed c.args.defs.now c.args.against.now c.requires.first c.concl.ensures.derived c.requires.shape in
    let own = rw (c.left.ensures, c.concl.ensures.value) at c.in_ok-own.ensures in
    rw (own truth_type h.typed) (establish_over c.args.defs.now c.args.against.now c.args.equation.now c.requires.first c.requires.second c.requires.shape c.requires.equation)
