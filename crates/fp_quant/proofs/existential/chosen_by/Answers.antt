use Rattle.std.proofs.Common.{◌∙◌, sym, ap}
use Rattle.fp_conclude.specs.Shapes.{argument_in}
use Rattle.fp_quant.proofs.Chosen.{choose_existence, choose_abstraction, choose_rest, choose_predicate, choose_concl}
use Rattle.fp_quant.proofs.existential.chosen_by.Goals as goal

pub choose_known-requires-clause-existence : goal.choose_known-requires-clause-existence
choose_known-requires-clause-existence c =
    choose_existence c.args.defs.now c.args.name.now c.args.ty.now c.args.a.now c.args.b.now c.args.bound.now c.args.body.now c.argument_in.result.now c.requires.first_within c.concl.ensures.derived
    c.requires.parts (c.argument_in.ensures ∙ ap argument_in c.concl.ensures.value) (sym c.equals.ensures ∙ c.if-not-equals.false)

pub choose_known-requires-clause-abstraction : goal.choose_known-requires-clause-abstraction
choose_known-requires-clause-abstraction c =
    choose_abstraction c.args.defs.now c.args.name.now c.args.ty.now c.args.a.now c.args.b.now c.args.bound.now c.args.body.now c.argument_in.result.now c.requires.first_within c.concl.ensures.derived
    c.requires.parts (c.argument_in.ensures ∙ ap argument_in c.concl.ensures.value)

pub choose_known-requires-clause-apart : goal.choose_known-requires-clause-apart
choose_known-requires-clause-apart c =
    choose_rest c.args.defs.now c.args.name.now c.args.ty.now c.args.a.now c.args.b.now c.args.bound.now c.args.body.now c.argument_in.result.now c.requires.first_within c.concl.ensures.derived
    c.requires.parts (c.argument_in.ensures ∙ ap argument_in c.concl.ensures.value) (sym c.in_ok-is_free.ensures ∙ c.if-branch.false)

pub choose_known-requires-clause-predicate_apart : goal.choose_known-requires-clause-predicate_apart
choose_known-requires-clause-predicate_apart c =
    choose_predicate c.args.defs.now c.args.name.now c.args.ty.now c.args.a.now c.args.b.now c.args.bound.now c.args.body.now c.argument_in.result.now c.requires.first_within c.concl.ensures.derived
    c.requires.parts (c.argument_in.ensures ∙ ap argument_in c.concl.ensures.value) (sym c.in_ok-is_free.ensures ∙ c.if-branch.false)

pub choose_known-requires-clause-concl_apart : goal.choose_known-requires-clause-concl_apart
choose_known-requires-clause-concl_apart c =
    choose_concl c.args.defs.now c.args.name.now c.args.ty.now c.args.a.now c.args.b.now c.args.bound.now c.args.body.now c.argument_in.result.now c.requires.first_within c.concl.ensures.derived
    c.requires.parts (c.argument_in.ensures ∙ ap argument_in c.concl.ensures.value) (sym c.in_ok-is_free.ensures ∙ c.if-branch.false)
