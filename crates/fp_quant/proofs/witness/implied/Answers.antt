use Rattle.std.proofs.Common.{refl, ap}
use Rattle.fp_conclude.specs.Logic.{truth_type, equal}
use Rattle.fp_kernel.specs.Definitions.{whole}
use Rattle.fp_kernel.specs.Theorems.{Theorem}
use Rattle.fp_conclude.specs.Shapes.{left, right}
use Rattle.fp_logic.proofs.Turning.{lifted, lifted_sides}
use Rattle.fp_quant.proofs.Reached.{itself_plain}
use Rattle.fp_quant.proofs.Placed.{plain_within}
use Rattle.fp_quant.proofs.witness.implied.Goals as goal

pub disch_known-requires-clause-formula : goal.disch_known-requires-clause-formula
disch_known-requires-clause-formula c =
    let l = left c.args.equation.now.concl in
    let r = right c.args.equation.now.concl in
    let within = plain_within c.args.defs.now c.args.equation.now (itself_plain c.args.defs.now c.args.equation.now (equal truth_type l r) c.requires.equation) in
    rw (c.right.ensures, c.concl.ensures.value)
    (lifted_sides c.args.defs.now c.args.equation.now truth_type l r within c.concl.ensures.derived (ap (λ (x : Theorem). x.concl) c.requires.equation)).right

pub with_conclusion-requires-clause-equation : goal.with_conclusion-requires-clause-equation
with_conclusion-requires-clause-equation c = c.requires.equation

pub with_conclusion-requires-clause-formula : goal.with_conclusion-requires-clause-formula
with_conclusion-requires-clause-formula c = rw c.concl-2.ensures.value (lifted c.args.defs.now c.args.b.now c.requires.within c.concl-2.ensures.derived)

pub fold-requires : goal.fold-requires
fold-requires c = rw (c.in_ok-turned.ensures, c.in_ok-discharged.ensures, c.concl-2.ensures.value, c.right.ensures, c.concl.ensures.value) (refl, whole, refl)

pub returns : goal.returns
returns c = rw (c.in_ok-turned.ensures, c.in_ok-discharged.ensures, c.concl-2.ensures.value, c.right.ensures, c.concl.ensures.value) at c.fold.ensures
