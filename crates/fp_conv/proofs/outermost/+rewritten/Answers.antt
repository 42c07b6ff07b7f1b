use Rattle.std.proofs.Common.{◌∙◌, refl, sym, ap, arith}
use Rattle.fp_term.specs.Terms.{abs}
use Rattle.fp_term.specs.TermView.{seen}
use Rattle.fp_kernel.specs.Start.{signature_of}
use Rattle.fp_conv.proofs.Rewriting.{body_typed}
use Rattle.fp_conv.proofs.Reduced.{body_smaller}
use Rattle.fp_conv.proofs.Walking.{simple_unchanged}
use Rattle.fp_conv.proofs.outermost.+rewritten.Goals as goal

pub abstraction-rewritten-requires : goal.abstraction-rewritten-requires
abstraction-rewritten-requires t c =
    let p = c.in_ok-opening.opening in
    let whole = abs c.args.ty.now c.args.body.now in (
      omega (arith, body_smaller whole p.1 p.0 c.args.ty.now c.args.body.now refl c.in_ok-opening.ensures.opened),
      (c.requires.within, (c.requires.equation, body_typed (signature_of c.args.defs.now) whole p.1 p.0 c.args.ty.now c.args.body.now refl c.in_ok-opening.ensures.opened c.requires.typed)),
    )

pub inside-returns-in-Free : goal.inside-returns-in-Free
inside-returns-in-Free t c = simple_unchanged c.args.eq.now.hyps c.args.sides.now.left.now c.args.sides.now.right.now c.args.term.now _ (sym c.node.ensures ∙ ap seen c.in-Free.is) c.requires.none refl

pub inside-returns-in-Const : goal.inside-returns-in-Const
inside-returns-in-Const t c = simple_unchanged c.args.eq.now.hyps c.args.sides.now.left.now c.args.sides.now.right.now c.args.term.now _ (sym c.node.ensures ∙ ap seen c.in-Const.is) c.requires.none refl
