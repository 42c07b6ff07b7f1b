use Rattle.std.proofs.Common.{arith, ◌≡◌, refl}
use Rattle.fp_raw.specs.Raws.{raw_size}
use Rattle.fp_constrain.proofs.Clashing.{traces, wants_at}
use Rattle.fp_constrain.proofs.clash.equations_over.Goals as goal

pub returns : goal.returns
returns c =
    let f = rw c.new.ensures.items at c.in_ok-fix_all.ensures.fixes in
    let d = rw (c.in_ok-fix_all.ensures.step, c.new-seen.ensures.items) at c.in_ok-at.ensures.draws in
    let tag : c.draw.new.draft.step ≡ raw_size c.args.question.now.raw.now = omega (arith, c.in_ok-at.ensures.step, c.in_ok-fix_all.ensures.step) in
    traces _ _ _ _ _ _ c.requires.covers c.requires.given _ _ _ _ _ _ _ _ _ (omega arith) f d (wants_at _ _ _ _ _ _ _ _ _ _ _ _ c.in_ok-draw_want.ensures tag refl refl refl)
