-- Whether a goal becomes `T` is seen from its answer.
use Rattle.std.proofs.Common.{◌≡◌, true, false, List}
use Rattle.fp_term.specs.Terms.{Tm, term_eq}
use Rattle.fp_term.proofs.Equal.{term_eq-decides}
use Rattle.fp_conclude.specs.Logic.{true_constant}
use Rattle.fp_simp.specs.declared.simped.Simped.{Simped}
use Rattle.fp_rewriting.specs.Settling.{Question}
use Rattle.fp_rewriting.proofs.Settles.{one_settled}
use Rattle.fp_simp.specs.Tasks.{IsAnswer}
use Rattle.fp_order.specs.declared.entry.Entry.TheVariants.{Less, Leq, Unknown}
use Rattle.fp_rewriting.specs.declared.rule.Rule.{Rule}
use Rattle.fp_simp.specs.declared.cell.CellData.{CellData}
use Rattle.fp_simp.specs.Verdicts.{asked_of, IsSettledTrue, IsVerdict, is_less, is_leq, is_unknown}

pub settled_true : (q : Question) (s : Simped) → IsAnswer q s → term_eq s.term true_constant ≡ true → IsSettledTrue q
settled_true q s a e =
    let same : s.term ≡ true_constant = (term_eq-decides s.term true_constant).0 e in
    record { left = record { fuel = s.fuel; room = s.room; steps = a.steps }; by = rw same at a.is }

pub not_settled_true : (q : Question) (s : Simped) → IsAnswer q s → term_eq s.term true_constant ≡ false → IsSettledTrue q → ⊥
not_settled_true q s a e h =
    let same = one_settled a.is true_constant h.left h.by in
    let f : term_eq s.term true_constant ≡ true = (term_eq-decides s.term true_constant).1 same.value in
    cc

pub less : (rules : List Rule) (c : CellData) (gs : List Tm) → gs ≡ c.guards → IsSettledTrue (asked_of rules gs c.strict) → IsVerdict rules c Less
less rules c gs e h = is_less (rw e at h)

pub leq : (rules : List Rule) (c : CellData) (gs : List Tm) → gs ≡ c.guards → (IsSettledTrue (asked_of rules gs c.strict) → ⊥) →
    IsSettledTrue (asked_of rules gs c.weak) → IsVerdict rules c Leq
leq rules c gs e f h = is_leq (rw e at f) (rw e at h)

pub unknown : (rules : List Rule) (c : CellData) (gs : List Tm) → gs ≡ c.guards → (IsSettledTrue (asked_of rules gs c.strict) → ⊥) →
    (IsSettledTrue (asked_of rules gs c.weak) → ⊥) → IsVerdict rules c Unknown
unknown rules c gs e f g = is_unknown (rw e at f) (rw e at g)
