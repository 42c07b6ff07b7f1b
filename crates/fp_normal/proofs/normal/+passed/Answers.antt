use Rattle.std.proofs.Common.{refl, arith}
use Rattle.fp_term.specs.Terms.{abs}
use Rattle.fp_conv.proofs.Reduced.{body_smaller}
use Rattle.fp_normal.proofs.Passed.{body_passes}
use Rattle.fp_normal.proofs.normal.+passed.Goals as goal

pub passed_abstraction-passed-requires : goal.passed_abstraction-passed-requires
passed_abstraction-passed-requires t c =
    (omega (arith, body_smaller (abs c.args.ty.now c.args.body.now) c.in_ok-name.opened c.in_ok-name.name c.args.ty.now c.args.body.now refl c.in_ok-name.ensures.opened), tt)

pub passed_abstraction-returns : goal.passed_abstraction-returns
passed_abstraction-returns t c =
    body_passes c.args.depth c.in_ok-deeper.deeper c.args.ty.now c.args.body.now c.in_ok-name.opened c.in_ok-inner.inner c.in_ok-name.name c.in_ok-close_over.field-0 c.in_ok-copy.field-0 c.abs.result
    c.in_ok-deeper.ensures c.in_ok-name.ensures.first c.in_ok-name.ensures.opened c.requires c.in_ok-inner.ensures c.in_ok-close_over.ensures c.in_ok-copy.ensures c.abs.ensures
