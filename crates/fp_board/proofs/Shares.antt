-- Boards may be shared by threads, and what is left of a closed one too.
use denote.Struct.Declared.{shape}
use denote.Param.Send.{IsSend, IsSync, AllSend, AllSync, sendable, view_send, view_sync, recorded_send, recorded_sync, struct_send, struct_sync}
use Rattle.std.proofs.Crossing.{crosses}
use Rattle.atomic_table.proofs.shared.Shared.TheSendSync as shared
use Rattle.atomic_table.proofs.send_lease.SendLease.TheSendSync as lease
use Rattle.fp_shown.specs.contracts.partial.Partial as partial
use Rattle.fp_board.specs.contracts.board.Board as board
use Rattle.fp_board.specs.contracts.closed.Closed as closed
use Rattle.fp_board.specs.contracts.closed.Closed.TheInside as inside
use Rattle.fp_board.proofs.Crossing.{plan_send, plan_sync}

partial_send : IsSend (partial.the_field).row
partial_send = search (sendable, crosses) depth 40

partial_sync : IsSync (partial.the_field).row
partial_sync = search (sendable, crosses) depth 40

closed_fields : AllSend (shape inside.the_type).fields
closed_fields = (plan_send, (partial_send, tt))

inside_send : IsSend inside.the_row
inside_send = recorded_send _ _ (inside.the_type).to (inside.the_type).to_one (struct_send (shape inside.the_type) closed_fields)

pub closed_send : IsSend closed.the_row
closed_send = view_send _ _ _ _ _ inside_send

closed_shared : AllSync (shape inside.the_type).fields
closed_shared = (plan_sync, (partial_sync, tt))

inside_sync : IsSync inside.the_row
inside_sync = recorded_sync _ _ (inside.the_type).to (inside.the_type).to_one (struct_sync (shape inside.the_type) closed_shared)

pub closed_sync : IsSync closed.the_row
closed_sync = view_sync _ _ _ _ _ inside_sync

board_fields : AllSend (shape board.the_type).fields
board_fields = (plan_send, (search sendable, (search (shared.the_send, lease.the_send, sendable, crosses) depth 40, tt)))

pub board_send : IsSend board.the_row
board_send = recorded_send _ _ (board.the_type).to (board.the_type).to_one (struct_send (shape board.the_type) board_fields)

board_shared : AllSync (shape board.the_type).fields
board_shared = (plan_sync, (search sendable, (search (shared.the_sync, lease.the_sync, sendable, crosses) depth 40, tt)))

pub board_sync : IsSync board.the_row
board_sync = recorded_sync _ _ (board.the_type).to (board.the_type).to_one (struct_sync (shape board.the_type) board_shared)
