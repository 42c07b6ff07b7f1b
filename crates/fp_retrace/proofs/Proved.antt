-- What the theorem of a simplification says.
use Rattle.std.proofs.Common.{◌≡◌, ◌∙◌, true, false, List, [], refl, sym, ap, subst}
use Rattle.std.specs.Prelude.{Result, Ok, Err, IfOk}
use Rattle.std.specs.List.{list_all}
use Rattle.std.proofs.lemmas.Option.{same_Some}
use Rattle.fp_term.specs.Types.{Typ}
use Rattle.fp_term.specs.Terms.{Tm, term_eq}
use Rattle.fp_term.proofs.Equal.{term_eq-decides}
use Rattle.fp_conclude.specs.Logic.{truth_type, true_constant, equal}
use Rattle.fp_conclude.specs.Hypotheses.{member}
use Rattle.fp_kernel.specs.Definitions.{Def, Within, whole}
use Rattle.fp_kernel.specs.Derivability.{IsFormula}
use Rattle.fp_kernel.specs.Start.{signature_of}
use Rattle.fp_kernel.specs.Theorems.{Theorem, by_one}
use Rattle.fp_kernel.proofs.Formulas.{sides}
use Rattle.fp_rewriting.specs.declared.rule.Rule.{Rule}
use Rattle.fp_simp.specs.declared.simped.Simped.{Simped}
use Rattle.fp_simp.specs.Tasks.{IsAnswer}
use Rattle.fp_simp.specs.Verdicts.{asked_of, IsSettledTrue}
use Rattle.fp_simp.proofs.Cells.{settled_true, not_settled_true}
use Rattle.fp_retrace.specs.Proving.{Equates, Proves}

-- what was compared
pub equates : (defs : List Def) (guards : List Tm) (left right l r : Tm) (s : Typ) (th : Theorem) → Within th.defs defs → th.promises ≡ [] → list_all (λ h. member h guards) th.hyps ≡ true →
    th.concl ≡ equal s l r → term_eq l left ≡ true → term_eq r right ≡ true → Equates defs guards left right th
equates defs guards left right l r s th w p h c a b =
    let left_is = (term_eq-decides l left).0 a in
    let right_is = (term_eq-decides r right).0 b in
    record { rests = record { over = w; promises = p; hyps = h }; type = s; concl = rw (left_is, right_is) at c }

-- an equation with `T` is one of truth values
pub truth_equation : (defs : List Def) (guards : List Tm) (goal p : Tm) (th : Theorem) → Equates defs guards goal true_constant th → p ≡ th.concl → IsFormula (signature_of th.defs) th.concl →
    th.concl ≡ equal truth_type goal true_constant
truth_equation defs guards goal p th e p_is f =
    let k = rw e.concl at f in
    let right = (sides (signature_of th.defs) e.type goal true_constant k).right in
    let same : truth_type ≡ e.type = same_Some truth_type e.type right.typed in
    e.concl ∙ ap (λ (s : Typ). equal s goal true_constant) (sym same)

pub proves : {E : Type 0} (defs : List Def) (guards : List Tm) (goal : Tm) (a : Theorem) (q : Result Theorem E) → Equates defs guards goal true_constant a → IfOk q (λ th. th ≡ by_one defs a goal) →
    IfOk q (Proves defs guards goal)
proves defs guards goal a (Ok th) e is = rw is (record { rests = record { over = whole; promises = e.rests.promises; hyps = e.rests.hyps }; concl = refl })
proves defs guards goal a (Err f) e is = tt

pub truth_reached : (defs : List Def) (guards : List Tm) (goal t : Tm) (th : Theorem) → Equates defs guards goal t th → term_eq t true_constant ≡ true → Equates defs guards goal true_constant th
truth_reached defs guards goal t th e same = subst (λ (w : Tm). Equates defs guards goal w th) ((term_eq-decides t true_constant).0 same) e

pub goal_settled : (rules : List Rule) (guards : List Tm) (goal : Tm) (s : Simped) → IsAnswer (asked_of rules guards goal) s → term_eq s.term true_constant ≡ true → IsSettledTrue (asked_of rules guards goal)
goal_settled rules guards goal s a e = settled_true (asked_of rules guards goal) s a e

pub goal_unsettled : (rules : List Rule) (guards : List Tm) (goal : Tm) (s : Simped) → IsAnswer (asked_of rules guards goal) s → term_eq s.term true_constant ≡ false → IsSettledTrue (asked_of rules guards goal) → ⊥
goal_unsettled rules guards goal s a e = not_settled_true (asked_of rules guards goal) s a e
