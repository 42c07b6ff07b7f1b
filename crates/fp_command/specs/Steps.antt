-- One command of a file, carried out.
use Rattle.std.specs.Prelude.{◌≡◌, ℕ, List, ◌++◌, Bool, true, false}
use Rattle.fp_commands.specs.declared.command.Command.{Command}
use Rattle.fp_report.specs.declared.item.Item.{Item}
use Rattle.fp_report.specs.declared.reason.Reason.{Reason}
use Rattle.fp_report.specs.Items.{item_lines}
use Rattle.fp_report.specs.Reasons.{refusal_line}
use Rattle.fp_command.specs.Outcome.{Session, Accepts, Refuses}

-- `Steps full file s t c before after refuses`: the command makes the state s the state t and its lines go behind the text before, or it is refused,
-- the state stays, and the line of that does
pub data Steps (full : Bool) (file : List ℕ) (s t : Session) (c : Command) (before after : List ℕ) : Bool → Type 0 where
  goes : (items : List Item) → Accepts s c items t → after ≡ before ++ item_lines full items → Steps full file s t c before after false
  stops : (at : ℕ) (reason : Reason) → Refuses s.theory c at reason → t ≡ s → after ≡ before ++ refusal_line full file at reason → Steps full file s t c before after true
