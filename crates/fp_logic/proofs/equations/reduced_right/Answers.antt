use Rattle.std.proofs.Common.{refl}
use Rattle.fp_term.specs.Terms.{opened}
use Rattle.fp_conclude.specs.Logic.{equal}
use Rattle.fp_conclude.specs.Shapes.{side_type, right, function_in, argument_in, body_in}
use Rattle.fp_kernel.specs.Theorems.{plain}
use Rattle.fp_logic.proofs.Given.{at_type}
use Rattle.fp_logic.proofs.Turning.{right_typed}
use Rattle.fp_logic.proofs.equations.reduced_right.Goals as goal

pub beta_known-requires-clause-redex : goal.beta_known-requires-clause-redex
beta_known-requires-clause-redex c = rw (c.right.ensures, c.concl.ensures.value) c.requires.redex

pub beta_known-requires-clause-typed : goal.beta_known-requires-clause-typed
beta_known-requires-clause-typed c =
    (side_type c.args.th.now.concl, right_typed c.args.defs.now c.args.th.now c.right.result.now c.requires.over c.concl.ensures.derived c.requires.equation (rw (c.right.ensures, c.concl.ensures.value) refl))

pub returns : goal.returns
returns c =
    let t = right c.args.th.now.concl in
    let h = right_typed c.args.defs.now c.args.th.now t c.requires.over c.concl.ensures.derived c.requires.equation refl in
    at_type c.beta_known.result t (λ u. plain c.args.defs.now (equal u t (opened 0 (argument_in t) (body_in (function_in t))))) (side_type c.args.th.now.concl) h.typed (rw (c.right.ensures, c.concl.ensures.value) at c.beta_known.ensures)
