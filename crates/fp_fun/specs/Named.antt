-- What is shown of a group: named theorems, and an order.
use Rattle.std.specs.Prelude.{◌≡◌, ℕ, List, [], ◌∷◌, Some}
use Rattle.fp_term.specs.Terms.{Tm}
use Rattle.fp_term.specs.declared.statement.Statement.{Statement}
use Rattle.fp_kernel.specs.Theorems.{Theorem, IsTheorem}
use Rattle.fp_kernel.specs.Conservative.{IsConservative}
use Rattle.fp_theory.specs.State.{State, found_theorem, IsNoted}
use Rattle.fp_outcome.specs.Shown.{AreShownParts}
use Rattle.fp_report.specs.Texts.{IsShownStatement}
use Rattle.fp_report.specs.declared.item.Item.{Item}
use Rattle.fp_report.specs.declared.item.Item.TheVariants as item

-- the statement of a formula without hypotheses
abbrev pub stated : Tm → Statement
stated p = record { hyps = []; concl = p }

-- the statement is a named theorem, derivable from definitions that are conservative, without hypotheses and promises
pub record IsNamed (t : State) (name : List ℕ) (s : Statement) : Type 0 where
  pub theorem : Theorem
  pub found : found_theorem name t.named ≡ Some theorem
  pub statement : s ≡ stated theorem.concl
  pub noted : IsNoted t.defs theorem
  pub derived : IsTheorem theorem
  pub conservative : IsConservative theorem.defs

-- and it can be printed; a group shows no other items
abbrev pub IsNamedItem : State → Item → Type 0
IsNamedItem t (item.Definition name s) = IsNamed t name s × IsShownStatement s
IsNamedItem t (item.Theorem name s) = IsNamed t name s × IsShownStatement s
IsNamedItem t (item.Order names parts) = AreShownParts parts
IsNamedItem t _ = ⊥

abbrev pub AreNamed : State → List Item → Type 0
AreNamed t [] = Unit {0}
AreNamed t (item ∷ items) = IsNamedItem t item × AreNamed t items
