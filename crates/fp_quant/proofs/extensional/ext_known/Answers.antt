use Rattle.std.proofs.Common.{◌∙◌, refl}
use Rattle.fp_kernel.specs.Definitions.{whole}
use Rattle.fp_quant.proofs.Functions.{alike_is, abstract_asks, functions_of}
use Rattle.fp_quant.proofs.extensional.ext_known.Goals as goal

pub lam_known-requires : goal.lam_known-requires
lam_known-requires c =
    let f = c.args.functions.now in
    abstract_asks c.args.defs.now c.args.name.now f.from.now f.to.now f.left.now f.right.now c.args.a.now c.requires.within c.requires.known c.requires.hyps c.requires.shape

pub left_reduced-requires-clause-within : goal.left_reduced-requires-clause-within
left_reduced-requires-clause-within c = rw c.in_ok-alike.ensures whole

pub left_reduced-requires-clause-typed : goal.left_reduced-requires-clause-typed
left_reduced-requires-clause-typed c =
    let f = c.args.functions.now in
    (functions_of c.args.defs.now c.args.name.now f.from.now f.to.now f.left.now f.right.now c.args.a.now c.requires.within c.concl-concl.ensures.derived c.requires.shape).left

pub left_reduced-requires-clause-shape : goal.left_reduced-requires-clause-shape
left_reduced-requires-clause-shape c =
    let f = c.args.functions.now in
    let is = c.in_ok-alike.ensures ∙ alike_is c.args.defs.now c.args.name.now f.from.now f.to.now f.left.now f.right.now c.args.a.now c.requires.left c.requires.right c.requires.shape in
    rw is refl

pub right_reduced-requires-clause-within : goal.right_reduced-requires-clause-within
right_reduced-requires-clause-within c = rw c.in_ok-first.ensures whole

pub right_reduced-requires-clause-typed : goal.right_reduced-requires-clause-typed
right_reduced-requires-clause-typed c =
    let f = c.args.functions.now in
    (functions_of c.args.defs.now c.args.name.now f.from.now f.to.now f.left.now f.right.now c.args.a.now c.requires.within c.concl-concl.ensures.derived c.requires.shape).right

pub right_reduced-requires-clause-shape : goal.right_reduced-requires-clause-shape
right_reduced-requires-clause-shape c = rw c.in_ok-first.ensures refl

pub returns : goal.returns
returns c = rw (c.in_ok-first.ensures, c.in_ok-alike.ensures) at c.right_reduced.ensures
