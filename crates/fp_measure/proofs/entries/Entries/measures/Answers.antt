use Rattle.fp_measure.proofs.Measuring.{found_measure}
use Rattle.fp_measure.proofs.entries.Entries.measures.Goals as goal

pub returns-clause-measures : goal.returns-clause-measures
returns-clause-measures c =
    let past = rw (c.deref-entry-items.ensures.value, c.self.view_is) at c.loop-entry-test.false in
    found_measure c.args.ty.now c.loop-entry.found c.args.self.now c.loop-entry.entry-index past c.loop-entry.invariant (rw c.self.view_is at c.self.invariant)
