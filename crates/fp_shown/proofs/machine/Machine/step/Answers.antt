use Rattle.std.proofs.Common.{◌∙◌, ap, sym, set, List, Option}
use Rattle.std.proofs.lemmas.Bool.{OnTrue_at}
use Rattle.fp_order.specs.declared.entry.Entry.{Entry}
use Rattle.fp_shown.specs.Machine.{IsAllowed, cell_of, state_of, settled_of}
use Rattle.fp_shown.proofs.Boards.{settled_set, board_step}
use Rattle.fp_shown.proofs.machine.Machine.step.Goals as goal

pub invariant_of-self : goal.invariant_of-self
invariant_of-self c =
    let m = c.self.inside in
    let event = c.args.event in
    let yes : IsAllowed m.cells.grid m.verdicts.items m.states.items event =
    OnTrue_at c.if-done.true (rw (c.as_slice.ensures.value, c.as_slice-2.ensures.value) at c.in_ok-done.ensures.yes) in
    let board = board_step m.cells.grid m.verdicts.items m.states.items event c.self.invariant.0 yes in
    rw (c.cell-k.ensures, c.state.ensures, c.settled_entry.ensures, c.state-then-done.ensures)
    (board, ap (λ (t : List (Option Entry)). set t (cell_of event) (settled_of (state_of event))) c.self.invariant.1 ∙ sym (settled_set m.states.items (cell_of event) (state_of event)))
