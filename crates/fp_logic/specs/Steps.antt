-- What the rules give on premises of a known form.
use Rattle.fp_kernel.specs.Known.{CanMkComb}
use Rattle.std.specs.Prelude.{◌≡◌, ℕ, Bool, List, [], ◌∷◌, codes}
use Rattle.fp_term.specs.Types.{Typ}
use Rattle.fp_term.specs.Terms.{Tm, constant, app, opened}
use Rattle.fp_term.specs.Names.{equality}
use Rattle.fp_conclude.specs.Logic.{truth_type, equality_type, equal, true_constant, connective}
use Rattle.fp_conclude.specs.Hypotheses.{without}
use Rattle.fp_kernel.specs.Definitions.{Def, Within}
use Rattle.fp_kernel.specs.Start.{signature_of}
use Rattle.fp_kernel.specs.Derivability.{IsFormula}
use Rattle.fp_kernel.specs.Theorems.{Theorem, plain}
use Rattle.fp_forms.specs.Schemas.{p_variable, q_variable, held, itself, choice, chosen}
use Rattle.fp_conclude.specs.Shapes.{side_type, target, left, right, body_in, IsEquation, IsEquationFrom, IsAbstraction}

-- an equation with an abstraction, and one of arguments of it
abbrev pub CanUnfold : List Def → Theorem → Theorem → Type 0
CanUnfold defs a b = CanMkComb defs a b × IsAbstraction (right a.concl)

abbrev pub unfolded : Tm → Tm → Tm
unfolded p q = equal (target (side_type p)) (app (left p) (left q)) (opened 0 (right q) (body_in (right p)))

-- that equality is itself
abbrev pub own_equality : Typ → Tm
own_equality s = let e = constant equality (equality_type s) in equal (equality_type s) e e

-- two equations with the left side of a third, at the type of that equality
abbrev pub CanTurn : List Def → Theorem → Theorem → Theorem → Theorem → Type 0
CanTurn defs e a b c =
    (e ≡ plain defs (own_equality (side_type a.concl))) × Within a.defs defs × Within b.defs defs × IsEquation a.concl
    × IsEquationFrom (side_type a.concl) (left a.concl) b.concl × (c ≡ plain defs (equal (side_type a.concl) (left a.concl) (left a.concl)))

abbrev pub turned : Tm → Tm → Tm
turned p q = equal (side_type p) (right p) (right q)

-- formulas: two equations with the left side of a third, and the right side of the first
abbrev pub CanCarry : List Def → Theorem → Theorem → Theorem → Theorem → Type 0
CanCarry defs a b c d =
    Within a.defs defs × Within b.defs defs × (a.concl ≡ equal truth_type (left a.concl) (right a.concl)) × IsEquationFrom truth_type (left a.concl) b.concl
    × (c ≡ plain defs (equal truth_type (left a.concl) (left a.concl))) × (d ≡ plain defs (right a.concl))

-- formulas: an equation with `T`, and two with its left side
abbrev pub CanEstablish : List Def → Theorem → Theorem → Theorem → Type 0
CanEstablish defs a b c =
    Within a.defs defs × Within b.defs defs × (a.concl ≡ equal truth_type (left a.concl) true_constant) × IsEquationFrom truth_type (left a.concl) b.concl
    × (c ≡ plain defs (equal truth_type (left a.concl) (left a.concl)))

-- an equation without hypotheses, and its left side
abbrev pub CanConvert : List Def → Theorem → Theorem → Type 0
CanConvert defs a b = (a ≡ plain defs a.concl) × Within b.defs defs × IsEquationFrom (side_type a.concl) b.concl a.concl

-- an equation with an abstraction of two formulas, at `p` and `q`
abbrev pub unfolded_twice : Tm → Tm
unfolded_twice p = unfolded (unfolded p (itself p_variable)) (itself q_variable)

abbrev pub CanUnfoldTwice : List Def → Theorem → Type 0
CanUnfoldTwice defs a =
    (a ≡ plain defs a.concl) × CanUnfold defs (plain defs a.concl) (plain defs (itself p_variable))
    × CanUnfold defs (plain defs (unfolded a.concl (itself p_variable))) (plain defs (itself q_variable))

-- a theorem of that connective of two formulas
abbrev pub IsJoined : List ℕ → List Def → Theorem → Tm → Tm → Type 0
IsJoined name defs a l r = Within a.defs defs × (a.concl ≡ app (app (connective name) l) r) × IsFormula (signature_of defs) l × IsFormula (signature_of defs) r

abbrev pub IsConjunction : List Def → Theorem → Tm → Tm → Type 0
IsConjunction defs a l r = IsJoined (codes "and") defs a l r

abbrev pub IsImplication : List Def → Theorem → Tm → Tm → Type 0
IsImplication defs a l r = IsJoined (codes "imp") defs a l r

-- what a chooser gives, for variables
abbrev pub choice_schema : List Def → Bool → Theorem
choice_schema defs first = plain defs (equal truth_type (choice first p_variable q_variable) (chosen first p_variable q_variable))

-- that a formula is `T` exactly where it holds, for a variable
abbrev pub held_schema : List Def → Theorem
held_schema defs = plain defs (equal truth_type p_variable (held p_variable))

-- with the hypotheses of a theorem but one
abbrev pub without_one : List Def → Tm → Theorem → Tm → Theorem
without_one defs t a p = record { defs = defs; promises = a.promises; hyps = without t a.hyps; concl = p }

-- an equation of formulas without hypotheses, and its right side
abbrev pub CanFold : List Def → Theorem → Theorem → Type 0
CanFold defs a b = (a ≡ plain defs (equal truth_type (left a.concl) (right a.concl))) × Within b.defs defs × (b.concl ≡ right a.concl)
