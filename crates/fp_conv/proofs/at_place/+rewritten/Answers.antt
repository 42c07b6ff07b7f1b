use Rattle.std.proofs.Common.{◌∙◌, ◌∷◌, refl, sym, ap, arith}
use Rattle.fp_term.specs.Terms.{abs}
use Rattle.fp_term.specs.TermView.{seen}
use Rattle.fp_kernel.specs.Start.{signature_of}
use Rattle.fp_conv.proofs.Rewriting.{argument_typed, argument_there, function_there, body_typed, body_there, own_parts, rewritten_in_function, rewritten_in_argument, rewritten_in_body}
use Rattle.fp_conv.proofs.Reduced.{function_typed, whole_typed}
use Rattle.fp_conv.proofs.at_place.+rewritten.Goals as goal

pub rewritten-rewritten-requires : goal.rewritten-rewritten-requires
rewritten-rewritten-requires t c =
    let is = sym c.node.ensures ∙ ap seen c.in-App.is in
    let g = signature_of c.args.defs.now in (
      omega (arith, c.in-Some.ensures.cases.1),
      (
        c.requires.within,
        (
          c.requires.equation,
          (
            function_typed g c.args.term.now c.in-App.fun c.in-App.arg is c.requires.typed,
            function_there c.args.steps.now c.in-Some.rest.now c.in-Some.step.now c.args.term.now c.in-App.fun c.in-App.arg c.args.sides.now.left.now c.in-Some.ensures.cases.0 is c.if-step-eq0.true c.requires.there,
          ),
        ),
      ),
    )

pub rewritten-ap_arg_known-requires-clause-equation : goal.rewritten-ap_arg_known-requires-clause-equation
rewritten-ap_arg_known-requires-clause-equation t c = own_parts c.in_ok-inner-in-App.ensures

pub rewritten-ap_arg_known-requires-clause-typed : goal.rewritten-ap_arg_known-requires-clause-typed
rewritten-ap_arg_known-requires-clause-typed t c = whole_typed (signature_of c.args.defs.now) c.args.term.now _ (sym c.node.ensures ∙ ap seen c.in-App.is) c.requires.typed

pub rewritten-rewritten-requires-else-step-eq0 : goal.rewritten-rewritten-requires-else-step-eq0
rewritten-rewritten-requires-else-step-eq0 t c =
    let is = sym c.node.ensures ∙ ap seen c.in-App.is in
    let g = signature_of c.args.defs.now in (
      omega (arith, c.in-Some.ensures.cases.1),
      (
        c.requires.within,
        (
          c.requires.equation,
          (
            argument_typed g c.args.term.now c.in-App.fun c.in-App.arg is c.requires.typed,
            argument_there c.args.steps.now c.in-Some.rest.now c.in-Some.step.now c.args.term.now c.in-App.fun c.in-App.arg c.args.sides.now.left.now c.in-Some.ensures.cases.0 is c.if-step-eq0.false c.requires.there,
          ),
        ),
      ),
    )

pub rewritten-ap_known-requires-clause-equation : goal.rewritten-ap_known-requires-clause-equation
rewritten-ap_known-requires-clause-equation t c = own_parts c.in_ok-inner-in-App-2.ensures

pub rewritten-ap_known-requires-clause-typed : goal.rewritten-ap_known-requires-clause-typed
rewritten-ap_known-requires-clause-typed t c = whole_typed (signature_of c.args.defs.now) c.args.term.now _ (sym c.node.ensures ∙ ap seen c.in-App.is) c.requires.typed

pub rewritten-returns-in_ok-inner-in-App : goal.rewritten-returns-in_ok-inner-in-App
rewritten-returns-in_ok-inner-in-App t c =
    rewritten_in_function c.ap_arg_known.result c.args.steps.now c.in-Some.rest.now c.in-Some.step.now c.args.term.now c.args.sides.now.right.now c.in-App.fun c.in-App.arg
    c.in-Some.ensures.cases.0 c.if-step-eq0.true (sym c.node.ensures ∙ ap seen c.in-App.is) c.in_ok-inner-in-App.ensures c.ap_arg_known.ensures

pub rewritten-returns-in_ok-inner-in-App-2 : goal.rewritten-returns-in_ok-inner-in-App-2
rewritten-returns-in_ok-inner-in-App-2 t c =
    rewritten_in_argument c.ap_known.result c.args.steps.now c.in-Some.rest.now c.in-Some.step.now c.args.term.now c.args.sides.now.right.now c.in-App.fun c.in-App.arg
    c.in-Some.ensures.cases.0 c.if-step-eq0.false (sym c.node.ensures ∙ ap seen c.in-App.is) c.in_ok-inner-in-App-2.ensures c.ap_known.ensures

pub in_abstraction-rewritten-requires : goal.in_abstraction-rewritten-requires
in_abstraction-rewritten-requires t c =
    let e = c.args.sides.now in
    let p = c.in_ok-opening.opening in
    let whole = abs c.args.ty.now c.args.body.now in
    let step = c.requires.there.0 in (
      omega arith,
      (
        c.requires.within,
        (
          c.requires.equation,
          (
            body_typed (signature_of c.args.defs.now) whole p.1 p.0 c.args.ty.now c.args.body.now refl c.in_ok-opening.ensures.opened c.requires.typed,
            body_there c.args.defs.now c.args.eq.now e.ty.now e.left.now e.right.now c.requires.within c.concl.ensures.derived c.requires.equation p.0 c.args.ty.now c.args.body.now
                (step ∷ c.args.rest.now) c.args.rest.now step whole p.1 refl refl c.in_ok-opening.ensures.opened c.requires.there.1,
          ),
        ),
      ),
    )

pub in_abstraction-closed_again-requires-clause-apart : goal.in_abstraction-closed_again-requires-clause-apart
in_abstraction-closed_again-requires-clause-apart t c = rw (c.concl.ensures.value, c.hyps.ensures.value) at c.in_ok-opening.ensures.apart

pub in_abstraction-closed_again-requires-clause-opened : goal.in_abstraction-closed_again-requires-clause-opened
in_abstraction-closed_again-requires-clause-opened t c = c.in_ok-opening.ensures.opened

pub in_abstraction-closed_again-requires-clause-inner : goal.in_abstraction-closed_again-requires-clause-inner
in_abstraction-closed_again-requires-clause-inner t c = c.in_ok-inner.ensures

pub rewritten-in_abstraction-requires : goal.rewritten-in_abstraction-requires
rewritten-in_abstraction-requires t c =
    let is = sym c.node.ensures ∙ ap seen c.in-Abs.is in (
      omega (arith, c.in-Some.ensures.cases.1),
      (
        c.requires.within,
        (
          c.requires.equation,
          (
            whole_typed (signature_of c.args.defs.now) c.args.term.now _ is c.requires.typed,
            (c.in-Some.step.now, rw (c.in-Some.ensures.cases.0, is) at c.requires.there),
          ),
        ),
      ),
    )

pub rewritten-returns-in-Abs : goal.rewritten-returns-in-Abs
rewritten-returns-in-Abs t c =
    rewritten_in_body c.args.defs.now c.args.eq.now.promises c.args.eq.now.hyps c.in_abstraction.result c.args.steps.now c.in-Some.rest.now c.in-Some.step.now c.args.term.now c.args.sides.now.left.now c.args.sides.now.right.now
    c.in-Abs.ty c.in-Abs.body c.in-Some.ensures.cases.0 (sym c.node.ensures ∙ ap seen c.in-Abs.is) c.requires.there c.in_abstraction.ensures
