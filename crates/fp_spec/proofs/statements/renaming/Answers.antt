use Rattle.std.proofs.Common.{◌≤◌, length, arith}
use Rattle.fp_spec.specs.Statements.{renaming}
use Rattle.fp_spec.proofs.Renamings.{ended}
use Rattle.fp_spec.proofs.statements.renaming.Goals as goal

pub returns-then-at-others : goal.returns-then-at-others
returns-then-at-others c =
    let h : length c.args.others.now ≤ c.loop-at.at = omega (arith, c.if-at-others.true) in
    ended c.args.vars.now c.args.others.now c.loop-at.at c.loop-at.pairs (renaming c.args.vars.now c.args.others.now) h c.loop-at.invariant
