use Rattle.std.proofs.Common.{◌+◌, drop}
use Rattle.std.proofs.lemmas.List.{drop_more}
use Rattle.std.proofs.Math.ListN.{drop_of_length-le}
use Rattle.fp_command.proofs.Carrying.{carried_none, carried_more, carried_refused, carried_all}
use Rattle.fp_command.proofs.report.carry_each.Goals as goal

pub loop-command-init : goal.loop-command-init
loop-command-init g c = carried_none c.args.full c.args.name.now _ c.args.commands.now c.args.text.now.items c.requires

pub returns-then-branch : goal.returns-then-branch
returns-then-branch g c =
    let d = c.command-item.result in
    let ds = c.args.commands.now in
    let i = c.loop-command.command-index in
    let left = drop_more ds i d c.loop-command-test.true in
    carried_refused c.args.full c.args.name.now _ ds _ _ d (drop (i + 1) ds) c.loop-command.text.items
    c.carry_one.new.text.items (rw (left, ← c.command-item.is) at c.loop-command.invariant) (rw c.if-branch.true at c.in_ok-carry_one.ensures)

pub loop-command-preserved : goal.loop-command-preserved
loop-command-preserved g c =
    let d = c.command-item.result in
    let ds = c.args.commands.now in
    let i = c.loop-command.command-index in
    let left = drop_more ds i d c.loop-command-test.true in
    carried_more c.args.full c.args.name.now _ ds _ _ d (drop (i + 1) ds) c.loop-command.text.items
    c.carry_one.new.text.items (rw (left, ← c.command-item.is) at c.loop-command.invariant) (rw c.if-branch.false at c.in_ok-carry_one.ensures)

pub returns : goal.returns
returns g c =
    let ds = c.args.commands.now in
    let none = drop_of_length-le ds c.loop-command-test.false in
    carried_all c.args.full c.args.name.now _ ds _ c.loop-command.text.items (rw none at c.loop-command.invariant)
