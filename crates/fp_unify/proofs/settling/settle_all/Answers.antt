use Rattle.std.proofs.Common.{arith, ◌≡◌, ◌≤◌, length}
use Rattle.fp_unify.proofs.Ordered.{between_none, between_next, ended}
use Rattle.fp_unify.proofs.settling.settle_all.Goals as goal

pub loop-before-init : goal.loop-before-init
loop-before-init c = between_none _ _ _ _ c.requires.kept c.requires.settles c.in_ok-left.ensures (omega arith)

pub loop-before-preserved : goal.loop-before-preserved
loop-before-preserved c =
    let e : c.len-before-in-loop-before.result ≡ length c.as_slice.result.now = omega arith in
    rw e (between_next _ _ _ _ _ c.loop-before.invariant.kept c.in_ok-left-2.ensures)

pub returns : goal.returns
returns c =
    let stop : c.loop-before.before ≤ length c.loop-before.left.items = omega arith in
    ended _ _ _ _ stop c.requires.fine c.loop-before.invariant
