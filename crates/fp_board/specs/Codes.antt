-- Closed boards as plain data, by which a proof tells them apart.
use Rattle.std.specs.Prelude.{refl}
use Rattle.std.specs.Coded.{Coded, code_by, coded×}
use Rattle.fp_shown.specs.declared.partial.Partial.{Partial}
use Rattle.fp_shown.specs.contracts.partial.Partial as partial
use Rattle.fp_board_rule.specs.declared.plan.Plan.{Plan}
use Rattle.fp_board_rule.specs.contracts.plan.Plan as plan
use Rattle.fp_board.specs.Closing.{ClosedBoard}

abbrev pub coded_parts : Coded (Plan × Partial)
coded_parts = coded× plan.the_row.coded partial.the_row.coded

abbrev pub coded_board : Coded ClosedBoard
coded_board = code_by (Plan × Partial) coded_parts (λ b. (b.plan, b.partial)) (λ p. record { plan = p.0; partial = p.1 }) (λ b. refl)
