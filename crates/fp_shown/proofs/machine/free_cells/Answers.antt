use Rattle.std.proofs.Common.{rules, ◌∙◌, sym}
use Rattle.fp_shown.proofs.Boards.{settled_free}
use Rattle.fp_shown.proofs.machine.free_cells.Goals as goal

pub returns-clause-known : goal.returns-clause-known
returns-clause-known c = c.in_ok-known.ensures.items_if_clones_equal (λ y k. search rules) ∙ sym (settled_free c.args.count)
