-- What each answer says of the seat before and after: of its view, the cell and the view afterwards.
use Rattle.std.specs.Prelude.{◌≡◌, ◌≢◌, ℕ, ◌+◌}
use Rattle.fp_order.specs.declared.entry.Entry.{Entry}
use Rattle.fp_board_rule.specs.declared.view.View.{View}
use Rattle.fp_board_rule.specs.Words.{code}
use Rattle.fp_board_rule.specs.Steps.{Finds, claiming, idle, learned}
use Rattle.fp_board.specs.declared.answers.Claim.{Claim}
use Rattle.fp_board.specs.declared.answers.Claim.TheVariants.{Claimed, Taken}
use Rattle.fp_board.specs.declared.answers.Settle.{Settle}
use Rattle.fp_board.specs.declared.answers.Settle.TheVariants as settle
use Rattle.fp_board.specs.declared.answers.Cancel.{Cancel}
use Rattle.fp_board.specs.declared.answers.Cancel.TheVariants.{Cancelled, Found}
use Rattle.fp_board.specs.declared.answers.Quit.{Quit}
use Rattle.fp_board.specs.declared.answers.Quit.TheVariants as quit

-- the cell was free and is claimed, or it had that other word
abbrev pub IsClaim : View → ℕ → Claim → View → Type 0
IsClaim v k Claimed w = Finds v k 0 × (w ≡ claiming v k)
IsClaim v k (Taken x) w = Finds v k x × (x ≢ 0) × (w ≡ v)

-- the seat's claim ends: the cell is settled with the entry, or it was cancelled
abbrev pub IsSettle : View → ℕ → Entry → Settle → View → Type 0
IsSettle v k e settle.Settled w = Finds v k (8 + v.number) × (w ≡ idle (learned v k (code e)))
IsSettle v k e settle.WasCancelled w = Finds v k 1 × (w ≡ idle v)

-- the cell had the expected word and is cancelled, or it had that other word
abbrev pub IsCancel : View → ℕ → ℕ → Cancel → View → Type 0
IsCancel v k expected Cancelled w = Finds v k expected × (w ≡ learned v k 1)
IsCancel v k expected (Found x) w = Finds v k x × (x ≢ expected) × (w ≡ v)

-- the seat's claim ends: the cell is free again, or it was cancelled
abbrev pub IsQuit : View → ℕ → Quit → View → Type 0
IsQuit v k quit.Freed w = Finds v k (8 + v.number) × (w ≡ idle v)
IsQuit v k quit.WasCancelled w = Finds v k 1 × (w ≡ idle v)
