use Rattle.std.proofs.Common.{◌≡◌, subst}
use Rattle.std.specs.Prelude.{IfOk}
use Rattle.fp_kernel.specs.Theorems.{Theorem}
use Rattle.fp_conclude.specs.Shapes.{right}
use Rattle.fp_logic.proofs.Turning.{convert_asks, convert_gives}
use Rattle.fp_logic.proofs.holding.convert.Goals as goal

pub eq_mp_known-requires : goal.eq_mp_known-requires
eq_mp_known-requires c = convert_asks c.args.defs.now c.args.equation.now c.args.th.now c.requires

pub returns : goal.returns
returns c =
    let is = convert_gives c.args.defs.now c.args.equation.now c.args.th.now c.requires.0 c.hyps-hyps.ensures.set c.promises-promises.ensures.set (right c.args.equation.now.concl) in
    subst (λ (x : Theorem). IfOk c.eq_mp_known.result (λ th. th ≡ x)) is c.eq_mp_known.ensures
