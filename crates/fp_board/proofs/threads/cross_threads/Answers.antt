use denote.Param.Send.{sendable}
use Rattle.fp_board.proofs.Shares.{board_send, board_sync, closed_send, closed_sync}
use Rattle.fp_board.proofs.threads.cross_threads.Goals as goal

pub crosses_threads-requires-send-T : goal.crosses_threads-requires-send-T
crosses_threads-requires-send-T c κs = search (board_send, sendable)

pub crosses_threads-requires-sync-T : goal.crosses_threads-requires-sync-T
crosses_threads-requires-sync-T c κs = search (board_sync, sendable)

pub crosses_threads-requires-2-send-T : goal.crosses_threads-requires-2-send-T
crosses_threads-requires-2-send-T c κs = search (closed_send, sendable)

pub crosses_threads-requires-2-sync-T : goal.crosses_threads-requires-2-sync-T
crosses_threads-requires-2-sync-T c κs = search (closed_sync, sendable)
