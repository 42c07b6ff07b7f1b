use Rattle.std.proofs.Common.{◌∙◌, sym, ap}
use Rattle.std.specs.Prelude.{Some}
use Rattle.fp_term.proofs.Equal.{term_eq-decides}
use Rattle.fp_conv.proofs.Rewriting.{put_stands}
use Rattle.fp_conv.proofs.at_place.rewritten_at.Goals as goal

pub rewrite_at_known-requires-clause-there : goal.rewrite_at_known-requires-clause-there
rewrite_at_known-requires-clause-there c =
    sym (rw (c.as_slice.ensures, c.in_ok-steps.ensures) at c.in-Some.ensures)
    ∙ ap Some ((term_eq-decides c.in-Some.part.now c.args.sides.now.left.now).0 (sym c.same.ensures.value ∙ c.if-not-same.false))

pub returns : goal.returns
returns c =
    let e = c.args.sides.now in
    let part = c.in-Some.part.now in
    put_stands c.args.defs.now c.args.eq.now c.in_ok-rewrite_at_known.field-0 c.args.place.now c.args.term.now part (e.ty.now, e.left.now, e.right.now)
    (sym (rw (c.as_slice.ensures, c.in_ok-steps.ensures) at c.in-Some.ensures))
    ((term_eq-decides part e.left.now).0 (sym c.same.ensures.value ∙ c.if-not-same.false))
    c.in_ok-rewrite_at_known.ensures
