-- What a cell's goals come to.
use Rattle.std.specs.Prelude.{List}
use Rattle.fp_term.specs.Terms.{Tm}
use Rattle.fp_conclude.specs.Logic.{true_constant}
use Rattle.fp_rewriting.specs.declared.rule.Rule.{Rule}
use Rattle.fp_rewriting.specs.declared.left.Left.{Left}
use Rattle.fp_rewriting.specs.Settling.{Question, IsSimplified}
use Rattle.fp_simp.specs.declared.cell.CellData.{CellData}
use Rattle.fp_order.specs.declared.entry.Entry.{Entry}
use Rattle.fp_order.specs.declared.entry.Entry.TheVariants.{Less, Leq, Unknown}

-- a goal under guards, with the fuel and the room that each goal of a cell has for itself
abbrev pub asked_of : List Rule → List Tm → Tm → Question
asked_of rules guards goal = record { rules = rules; guards = guards; fuel = 1000; room = 20000; goal = goal }

-- the goal becomes `T`
pub record IsSettledTrue (q : Question) : Type 0 where
  pub left : Left
  pub by : IsSimplified q true_constant left

-- Less where the strict goal becomes `T`, else Leq where the weak goal does, else Unknown
pub data IsVerdict (rules : List Rule) (c : CellData) : Entry → Type 0 where
  is_less : IsSettledTrue (asked_of rules c.guards c.strict) → IsVerdict rules c Less
  is_leq : (IsSettledTrue (asked_of rules c.guards c.strict) → ⊥) → IsSettledTrue (asked_of rules c.guards c.weak) → IsVerdict rules c Leq
  is_unknown : (IsSettledTrue (asked_of rules c.guards c.strict) → ⊥) → (IsSettledTrue (asked_of rules c.guards c.weak) → ⊥) → IsVerdict rules c Unknown
