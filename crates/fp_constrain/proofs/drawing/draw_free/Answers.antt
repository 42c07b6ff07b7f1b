use Rattle.std.proofs.Common.{arith}
use Rattle.fp_constrain.specs.Subterms.{plain}
use Rattle.fp_constrain.proofs.Drawn.{among_within, draws_free, draws_at, written_at}
use Rattle.fp_constrain.proofs.drawing.draw_free.Goals as goal

pub known-requires-clause-inside : goal.known-requires-clause-inside
known-requires-clause-inside c = omega (arith, c.requires.names, among_within c.args.names.now c.args.name.now, c.number_among-number.ensures)

pub returns-clause-draws : goal.returns-clause-draws
returns-clause-draws c = λ g binders p.
    let k = c.in_ok-at.ensures in
    let w = c.in_ok-also_written.ensures in
    let a = c.in_ok-advance.ensures in
    draws_at g c.args.names.now binders _ _ _ _ _ _ _ _ _ _ _ _
    (draws_free g c.args.names.now binders _ _ _ _ _ _ c.args.name.now c.args.ty.now p _ c.requires.counted (written_at _ _ (plain c.args.ty.now) _ _ _ _ _ _ _ _ _ _ (rw c.number_among-number.ensures at k.leaf) k.step w.lays)) a.next a.facts a.seen
