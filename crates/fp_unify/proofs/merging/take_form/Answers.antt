use Rattle.std.proofs.Common.{arith}
use Rattle.fp_unify.proofs.Merged.{takes_if_open, takes_or_not}
use Rattle.fp_unify.proofs.merging.take_form.Goals as goal

pub returns-then-is_open : goal.returns-then-is_open
returns-then-is_open c =
    takes_if_open _ _ _ _ c.requires.fine (omega (arith, c.requires.inside, c.root-at.ensures.low)) c.requires.form_fine c.requires.known c.root-at.ensures.same _ _ c.requires.none c.if-is_open.ensures

pub returns : goal.returns
returns c =
    takes_or_not _ _ _ _ c.requires.fine (omega (arith, c.requires.inside, c.root-at.ensures.low)) c.requires.form_fine c.requires.known c.root-at.ensures.same _ _ _ _ _ c.index-cells-at-2.is c.requires.none c.in_ok-may.ensures
    c.root-at.ensures.root c.if-is_open.ensures
