use Rattle.std.proofs.Common.{◌≡◌, ap, subst}
use Rattle.std.specs.Prelude.{IfOk}
use Rattle.fp_conclude.specs.Logic.{implication}
use Rattle.fp_kernel.specs.Theorems.{Theorem}
use Rattle.fp_conclude.specs.Shapes.{right}
use Rattle.fp_logic.proofs.Turning.{convert_gives}
use Rattle.fp_quant.proofs.Reached.{itself_plain, over}
use Rattle.fp_quant.proofs.witness.by_rule.Goals as goal

pub mp_known-requires-clause-first_within : goal.mp_known-requires-clause-first_within
mp_known-requires-clause-first_within c = over c.args.rule.now.defs c.args.defs.now (ap (λ (x : Theorem). x.defs) c.requires.rule)

pub mp_known-requires-clause-shape : goal.mp_known-requires-clause-shape
mp_known-requires-clause-shape c = ap (λ (x : Theorem). x.concl) c.requires.rule

pub returns : goal.returns
returns c =
    let rule = itself_plain c.args.defs.now c.args.rule.now (implication c.args.a.now.concl (right c.args.rule.now.concl)) c.requires.rule in
    subst (λ (x : Theorem). IfOk c.mp_known.result (λ th. th ≡ x)) (convert_gives c.args.defs.now c.args.rule.now c.args.a.now rule c.hyps-hyps.ensures.set c.promises-promises.ensures.set (right c.args.rule.now.concl)) c.mp_known.ensures
