-- The steps to a disjunction.
use Rattle.std.proofs.Common.{◌≡◌, ◌∙◌, List, [], refl, sym, ap, subst}
use Rattle.std.specs.Prelude.{codes, Err, IfOk, Ok, Result}
use Rattle.fp_term.specs.Names.{truth}
use Rattle.fp_term.specs.Terms.{Tm, app, abs, closed}
use Rattle.fp_term.specs.Signatures.{IsWellTyped}
use Rattle.fp_term.proofs.Typed.{app_typed}
use Rattle.fp_conclude.specs.Logic.{truth_type, predicate_type, binary_type, equal, true_constant, connective, implication}
use Rattle.fp_conclude.specs.Hypotheses.{IsSet}
use Rattle.fp_conclude.proofs.Sets.{union_nothing}
use Rattle.fp_kernel.specs.Definitions.{Def, Within, whole}
use Rattle.fp_kernel.specs.Start.{signature_of}
use Rattle.fp_kernel.specs.Derivability.{IsFormula}
use Rattle.fp_kernel.specs.Theorems.{Theorem, ArePromises, plain, from_itself, by_one, by_both}
use Rattle.fp_kernel.proofs.Growing.{from_start}
use Rattle.fp_kernel.proofs.Promised.{promises_alone}
use Rattle.fp_disjunction.specs.Forms.{disjunction}
use Rattle.fp_forms.specs.Schemas.{q_variable, held}
use Rattle.fp_disjunction.specs.Schemas.{r_variable, each_way, always_true}
use Rattle.fp_conclude.specs.Shapes.{left, right}
use Rattle.fp_kernel.specs.Known.{CanMkComb, CanLam}
use Rattle.fp_conclude.specs.Known.{mk_comb_concl, lam_concl}
use Rattle.fp_logic.proofs.Concrete.{at_start}
use Rattle.fp_disjunction.specs.Steps.{without_both}

abbrev TrueEquation : List Def → Theorem → Type 0
TrueEquation defs th = th ≡ plain defs (equal truth_type (left th.concl) true_constant)

pub over_plain : (defs : List Def) (th : Theorem) (p : Tm) → th ≡ plain defs p → Within th.defs defs
over_plain defs th p e = subst (λ (x : Theorem). Within x.defs defs) (sym e) whole

pub abstract_asks : (defs : List Def) (th : Theorem) → TrueEquation defs th → CanLam defs (codes "r") truth_type th
abstract_asks defs th e =
    subst (λ (x : Theorem). CanLam defs (codes "r") truth_type x) (sym e) (whole, ((from_start defs).types truth 0 refl, tt), refl, refl)

abstract_is : (defs : List Def) (th : Theorem) → TrueEquation defs th →
    by_one defs th (lam_concl (codes "r") truth_type th.concl) ≡ plain defs (always_true (abs truth_type (closed 0 (codes "r") truth_type (left th.concl))))
abstract_is defs th e =
    subst (λ (x : Theorem). by_one defs x (lam_concl (codes "r") truth_type x.concl) ≡ plain defs (always_true (abs truth_type (closed 0 (codes "r") truth_type (left x.concl))))) (sym e) refl

pub abstract_gives : {E : Type 0} (defs : List Def) (th : Theorem) (q : Result Theorem E) → TrueEquation defs th →
    IfOk q (λ l. l ≡ by_one defs th (lam_concl (codes "r") truth_type th.concl)) → IfOk q (λ l. l ≡ plain defs (always_true (abs truth_type (closed 0 (codes "r") truth_type (left th.concl)))))
abstract_gives defs th (Ok l) e h = h ∙ abstract_is defs th e
abstract_gives defs th (Err f) e h = tt

-- `or` at both sides of `T = p` and at a formula
abbrev pub own_or : Tm
own_or = let t = connective (codes "or") in equal (binary_type truth_type truth_type) t t

abbrev pub Held : List Def → Theorem → Type 0
Held defs a = a ≡ by_one defs a (held (right a.concl))

abbrev Itself : List Def → Tm → Theorem
Itself defs t = plain defs (equal truth_type t t)

once_at : (defs : List Def) (a : Theorem) (p : Tm) → CanMkComb defs (plain defs own_or) (by_one defs a (held p))
once_at defs a p = (whole, whole, refl, refl)

pub first_once : (defs : List Def) (a : Theorem) → Held defs a → CanMkComb defs (plain defs own_or) a
first_once defs a e = subst (CanMkComb defs (plain defs own_or)) (sym e) (once_at defs a (right a.concl))

abbrev FirstOnce : List Def → Theorem → Theorem
FirstOnce defs a = by_both defs (plain defs own_or) a (mk_comb_concl own_or a.concl)

-- `or p = or q`
abbrev OrEquation : Tm → Tm → Tm
OrEquation p q = equal (predicate_type truth_type) (app (connective (codes "or")) p) (app (connective (codes "or")) q)

once_is : (defs : List Def) (a : Theorem) (p : Tm) → IsSet a.hyps → ArePromises a.promises → FirstOnce defs (by_one defs a (held p)) ≡ by_one defs a (OrEquation true_constant p)
once_is defs a p h k = rw (union_nothing a.hyps h, promises_alone a.promises k) refl

pub once_gives : (defs : List Def) (a : Theorem) → Held defs a → IsSet a.hyps → ArePromises a.promises → FirstOnce defs a ≡ by_one defs a (OrEquation true_constant (right a.concl))
once_gives defs a e h k = ap (FirstOnce defs) e ∙ once_is defs a (right a.concl) h k

pub or_typed : (defs : List Def) (t : Tm) → IsFormula (signature_of defs) t → IsWellTyped (signature_of defs) (app (connective (codes "or")) t) (predicate_type truth_type)
or_typed defs t h =
    let c = connective (codes "or") in
    record { typed = app_typed [] c t truth_type (predicate_type truth_type) refl h.typed; over = ((at_start defs c (binary_type truth_type truth_type) refl refl).over, h.over) }

abbrev SecondOnce : List Def → Tm → Theorem
SecondOnce defs t = plain defs (OrEquation t t)

second_at : (defs : List Def) (a : Theorem) (p t : Tm) → CanMkComb defs (SecondOnce defs t) (by_one defs a (held p))
second_at defs a p t = (whole, whole, refl, refl)

pub second_twice : (defs : List Def) (a : Theorem) (t : Tm) → Held defs a → CanMkComb defs (SecondOnce defs t) a
second_twice defs a t e = subst (CanMkComb defs (SecondOnce defs t)) (sym e) (second_at defs a (right a.concl) t)

abbrev Second : List Def → Theorem → Tm → Theorem
Second defs a t = by_both defs (SecondOnce defs t) a (mk_comb_concl (SecondOnce defs t).concl a.concl)

second_is : (defs : List Def) (a : Theorem) (p t : Tm) → IsSet a.hyps → ArePromises a.promises → Second defs (by_one defs a (held p)) t ≡ by_one defs a (equal truth_type (disjunction t true_constant) (disjunction t p))
second_is defs a p t h k = rw (union_nothing a.hyps h, promises_alone a.promises k) refl

pub second_gives : (defs : List Def) (a : Theorem) (t : Tm) → Held defs a → IsSet a.hyps → ArePromises a.promises →
    Second defs a t ≡ by_one defs a (equal truth_type (disjunction t true_constant) (disjunction t (right a.concl)))
second_gives defs a t e h k = ap (λ (x : Theorem). Second defs x t) e ∙ second_is defs a (right a.concl) t h k

-- two hypotheses discharged, one after the other
abbrev Discharged : List Def → Tm → Tm → Theorem → Theorem
Discharged defs x y a = without_both defs x y a (implication y (implication x a.concl))

two_discharged : (defs : List Def) (x y l m : Tm) (a b : Theorem) → x ≡ l → y ≡ m → a ≡ b → Discharged defs x y a ≡ Discharged defs l m b
two_discharged defs x y l m a b e f g =
    ap (λ (z : Tm). Discharged defs z y a) e ∙ ap (λ (z : Tm). Discharged defs l z a) f ∙ ap (λ (z : Theorem). Discharged defs l m z) g

abbrev FromTruth : Tm
FromTruth = implication true_constant r_variable

abbrev FromOther : Tm
FromOther = implication q_variable r_variable

abbrev ReachedAt : List Def → Theorem
ReachedAt defs = by_one defs (from_itself defs FromTruth) r_variable

pub first_way_is : (defs : List Def) (x y : Tm) (a : Theorem) → x ≡ FromOther → y ≡ FromTruth → a ≡ ReachedAt defs → Discharged defs x y a ≡ plain defs (each_way true_constant q_variable r_variable)
first_way_is defs x y a e f g = two_discharged defs x y FromOther FromTruth a (ReachedAt defs) e f g

pub second_way_is : (defs : List Def) (x y : Tm) (a : Theorem) → x ≡ FromTruth → y ≡ FromOther → a ≡ ReachedAt defs → Discharged defs x y a ≡ plain defs (each_way q_variable true_constant r_variable)
second_way_is defs x y a e f g = two_discharged defs x y FromTruth FromOther a (ReachedAt defs) e f g
