-- What is shown of a group is proved, and a refusal leaves the theory.
use Rattle.std.specs.Prelude.{◌≡◌, ℕ, List, [], ◌∷◌, Ok}
use Rattle.fp_theory.specs.State.{State}
use Rattle.fp_report.specs.declared.item.Item.{Item}
use Rattle.fp_report.specs.declared.item.Item.TheVariants as item
use Rattle.fp_report.specs.declared.reason.Reason.{Reason}
use Rattle.fp_report.specs.declared.refusal.Refusal.{Refusal}
use Rattle.fp_report.specs.Reasons.{IsShownReason}
use Rattle.fp_report.specs.Items.{AreShown}
use Rattle.fp_outcome.specs.declared.fault.FunFault.{FunFault}
use Rattle.fp_group_report.specs.Refusals.{Explains}
use Rattle.fp_fun.specs.Named as groups
use Rattle.fp_fun.proofs.Stating.{all_shown}
use Rattle.fp_command.specs.Outcome.{IsProved, IsProvedItem, AreProved, RefusesGroup}
use Rattle.fp_command.specs.Answers.{Leaves, Shows}
use Rattle.fp_command.specs.declared.fault.CommandFault.{CommandFault}
use Rattle.fp_command.specs.declared.fault.CommandFault.TheVariants.{Refused, NoMemory}

-- a refusal that can be printed leaves what is as it was
pub left : {S : Type 0} (s t : S) (P : ℕ → Reason → Type 0) (fault : CommandFault) → Shows P fault → t ≡ s → Leaves s t P fault
left s t P (Refused r) h e = (h.0, h.1, e)
left s t P NoMemory h e = tt

proved_item : (t : State) (i : Item) → groups.IsNamedItem t i → IsProvedItem t i
proved_item t (item.Definition name s) h = record { theorem = h.0.theorem; found = h.0.found; statement = h.0.statement; noted = h.0.noted; derived = h.0.derived; conservative = h.0.conservative }
proved_item t (item.Typedef name s) h = absurd h
proved_item t (item.Theorem name s) h = record { theorem = h.0.theorem; found = h.0.found; statement = h.0.statement; noted = h.0.noted; derived = h.0.derived; conservative = h.0.conservative }
proved_item t (item.Simp name) h = tt
proved_item t (item.Cong name) h = tt
proved_item t (item.Constructors name names) h = tt
proved_item t (item.Size type m) h = tt
proved_item t (item.Measure type m) h = tt
proved_item t (item.Order names parts) h = tt

pub proved : (t : State) (items : List Item) → groups.AreNamed t items → AreProved t items
proved t [] h = tt
proved t (i ∷ items) h = (proved_item t i h.0, proved t items h.1)

-- the refusal of a fault
pub explained : (fault : FunFault) (r : Refusal) → Explains fault r → IsShownReason r.reason → Shows RefusesGroup (Refused r)
explained fault r e s = ((fault, e), s)

pub shown : (t : State) (items : List Item) → groups.AreNamed t items → AreShown items
shown t items h = all_shown {E = Unit {0}} (Ok items) t h
