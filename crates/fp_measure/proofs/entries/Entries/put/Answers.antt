use Rattle.fp_measure.proofs.Measuring.{set_entries, push_entries}
use Rattle.fp_measure.proofs.entries.Entries.put.Goals as goal

pub invariant_of-self : goal.invariant_of-self
invariant_of-self c =
    set_entries c.args.ty.now c.in_ok-copy.field-0 c.args.term.now c.in_ok-copy-2.field-0 c.self.inside.entries.items c.deref.result.now c.in-Some.place c.deref.ensures.value (c.in-Some.ensures.some.1 c.args.term.now) c.in_ok-copy.ensures c.in_ok-copy-2.ensures c.requires c.self.invariant

pub invariant_of-self-in_ok-push-in-None : goal.invariant_of-self-in_ok-push-in-None
invariant_of-self-in_ok-push-in-None c =
    push_entries c.args.ty.now c.in_ok-copy.field-0 c.args.term.now c.in_ok-copy-2.field-0 c.self.inside.entries.items c.push.new.self.items c.in_ok-push-in-None.ensures.items c.in_ok-copy.ensures c.in_ok-copy-2.ensures c.requires c.self.invariant
