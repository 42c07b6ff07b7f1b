-- What a board's plan is made of may cross threads.
use denote.Param.Send.{IsSend, IsSync, sendable}
use Rattle.std.proofs.Crossing.{crosses}
use Rattle.fp_order.proofs.items.Items.TheSendSync as grid_items
use Rattle.fp_term.proofs.items.Items.TheSendSync as items
use Rattle.fp_term.proofs.name.Name.TheSendSync as names
use Rattle.fp_term.proofs.ty.Marks.TheSendSync as ty_marks
use Rattle.fp_term.proofs.ty.Ty.TheLaws.TheKnot as ty_knot
use Rattle.fp_term.proofs.term.Marks.TheSendSync as term_marks
use Rattle.fp_term.proofs.term.Term.TheLaws.TheKnot as term_knot
use Rattle.fp_term.specs.contracts.name.Name as name
use Rattle.fp_term.specs.contracts.ty.Ty as ty
use Rattle.fp_term.specs.contracts.term.Term as term
use Rattle.fp_simp.specs.contracts.cell.CellData as cell
use Rattle.fp_rewriting.proofs.index.Index.TheLaws.TheKnot as index_knot
use Rattle.fp_rewriting.specs.contracts.rules.RuleSet as rules
use Rattle.fp_board_rule.specs.contracts.plan.Plan as plan

name_send : IsSend name.the_row
name_send = names.the_send

name_sync : IsSync name.the_row
name_sync = names.the_sync

ty_send : IsSend ty.the_row
ty_send = search (name_send, name_sync, ty_marks.the_send, ty_marks.the_sync, ty_knot.crosses, sendable, crosses) depth 40

ty_sync : IsSync ty.the_row
ty_sync = search (name_send, name_sync, ty_marks.the_send, ty_marks.the_sync, ty_knot.crosses, sendable, crosses) depth 40

term_send : IsSend term.the_row
term_send = search (name_send, name_sync, ty_send, ty_sync, term_marks.the_send, term_marks.the_sync, term_knot.crosses, sendable, crosses) depth 40

term_sync : IsSync term.the_row
term_sync = search (name_send, name_sync, ty_send, ty_sync, term_marks.the_send, term_marks.the_sync, term_knot.crosses, sendable, crosses) depth 40

cell_send : IsSend cell.the_row
cell_send = search (term_send, items.the_send, sendable, crosses) depth 40

cell_sync : IsSync cell.the_row
cell_sync = search (term_sync, items.the_sync, sendable, crosses) depth 40

rules_send : IsSend rules.the_row
rules_send = search (name_send, term_send, items.the_send, index_knot.crosses, sendable, crosses) depth 40

rules_sync : IsSync rules.the_row
rules_sync = search (name_send, name_sync, term_send, term_sync, items.the_send, items.the_sync, index_knot.crosses, sendable, crosses) depth 40

pub plan_send : IsSend (plan.the_field).row
plan_send = search (cell_send, rules_send, grid_items.the_send, sendable, crosses) depth 40

pub plan_sync : IsSync (plan.the_field).row
plan_sync = search (cell_sync, rules_sync, grid_items.the_sync, sendable, crosses) depth 40
