use Rattle.fp_measure.proofs.Measuring.{push_entries}
use Rattle.fp_measure.proofs.entries.Entries.add.Goals as goal

pub invariant_of-self-in_ok-push : goal.invariant_of-self-in_ok-push
invariant_of-self-in_ok-push c =
    push_entries c.args.ty.now c.in_ok-copy.field-0 c.args.term.now c.in_ok-copy-2.field-0 c.self.inside.entries.items c.push.new.self.items c.in_ok-push.ensures.items c.in_ok-copy.ensures c.in_ok-copy-2.ensures c.requires c.self.invariant
