-- The steps from equations to others.
use Rattle.std.proofs.Common.{◌≡◌, List, refl, sym, ap, subst}
use Rattle.fp_term.specs.Names.{equality}
use Rattle.fp_term.specs.Types.{Typ}
use Rattle.fp_term.specs.Terms.{Tm, constant}
use Rattle.fp_term.specs.Signatures.{IsWellTyped}
use Rattle.fp_conclude.specs.Logic.{truth_type, equality_type, equal, true_constant}
use Rattle.fp_conclude.specs.Hypotheses.{IsSet}
use Rattle.fp_conclude.proofs.Sets.{union_nothing}
use Rattle.fp_kernel.specs.Definitions.{Def, Within, whole}
use Rattle.fp_kernel.specs.Start.{signature_of}
use Rattle.fp_conclude.specs.Axioms.{true_is}
use Rattle.fp_kernel.specs.Derivability.{IsFormula}
use Rattle.fp_kernel.specs.Theorems.{Theorem, IsTheorem, ArePromises, plain, by_one, by_both}
use Rattle.fp_kernel.proofs.Formulas.{formula_of, Sides, sides}
use Rattle.fp_kernel.proofs.Later.{later_all}
use Rattle.fp_kernel.proofs.Promised.{promises_alone}
use Rattle.fp_conclude.specs.Shapes.{side_type, left, right, IsEquation, IsEquationFrom}
use Rattle.fp_kernel.specs.Known.{CanMkComb, CanEqMp, CanTrans}
use Rattle.fp_conclude.specs.Known.{mk_comb_concl, trans_concl}
use Rattle.fp_logic.specs.Steps.{own_equality, CanTurn, turned, CanCarry, CanEstablish, CanConvert, CanFold}
use Rattle.fp_forms.specs.Schemas.{true_meaning}

-- whatever is concluded is a formula over each longer list
pub lifted : (defs : List Def) (th : Theorem) → Within th.defs defs → IsTheorem th → IsFormula (signature_of defs) th.concl
lifted defs th w d = formula_of (later_all w (λ x i. i) d)

pub lifted_sides : (defs : List Def) (th : Theorem) (s : Typ) (t u : Tm) → Within th.defs defs → IsTheorem th → th.concl ≡ equal s t u → Sides (signature_of defs) s t u
lifted_sides defs th s t u w d e = sides (signature_of defs) s t u (subst (IsFormula (signature_of defs)) e (lifted defs th w d))

pub lifted_equality : (defs : List Def) (th : Theorem) (s : Typ) (t u : Tm) → Within th.defs defs → IsTheorem th → th.concl ≡ equal s t u →
    IsWellTyped (signature_of defs) (constant equality (equality_type s)) (equality_type s)
lifted_equality defs th s t u w d e =
    let f = subst (IsFormula (signature_of defs)) e (lifted defs th w d) in
    record { typed = refl; over = f.over.0.0 }

pub right_typed : (defs : List Def) (th : Theorem) (t : Tm) → th.defs ≡ defs → IsTheorem th → IsEquation th.concl → t ≡ right th.concl → IsWellTyped (signature_of defs) t (side_type th.concl)
right_typed defs th t o d e is =
    let w = subst (λ (x : List Def). Within th.defs x) o whole in
    let h = lifted_sides defs th (side_type th.concl) (left th.concl) (right th.concl) w d e in
    subst (λ (x : Tm). IsWellTyped (signature_of defs) x (side_type th.concl)) (sym is) h.right

-- a theorem without hypotheses and promises before another
pub alone_after : (defs : List Def) (p q : Tm) (a : Theorem) → IsSet a.hyps → ArePromises a.promises → by_both defs (plain defs p) a q ≡ by_one defs a q
alone_after defs p q a h k = rw (union_nothing a.hyps h, promises_alone a.promises k) refl

module _ (defs : List Def) (e a b c : Theorem) (h : CanTurn defs e a b c) where
  abbrev Applied : Theorem
  Applied = by_both defs e a (mk_comb_concl e.concl a.concl)

  abbrev Both : Theorem
  Both = by_both defs Applied b (mk_comb_concl Applied.concl b.concl)

  pub turn_first : CanMkComb defs e a
  turn_first = rw h.0 (whole, h.1, refl, h.3)

  abbrev S : Typ
  S = side_type a.concl

  second_at : (q : Tm) → q ≡ equal S (left a.concl) (right b.concl) → Within b.defs defs → CanMkComb defs Applied (record b { concl = q })
  second_at q is w = rw (is, h.0) (whole, w, refl, refl)

  pub turn_second : CanMkComb defs Applied b
  turn_second = second_at b.concl h.4 h.2

  last_at : (q : Tm) → q ≡ equal S (left a.concl) (right b.concl) → CanEqMp defs (by_both defs Applied (record b { concl = q }) (mk_comb_concl Applied.concl q)) c
  last_at q is = rw (is, h.0, h.5) (whole, whole, refl)

  pub turn_last : CanEqMp defs Both c
  turn_last = last_at b.concl h.4

  pub turn_gives : IsSet a.hyps → ArePromises a.promises → by_both defs Both c (right Both.concl) ≡ by_both defs a b (turned a.concl b.concl)
  turn_gives k l = rw (h.0, h.5, union_nothing a.hyps k, promises_alone a.promises l) refl

-- of an equation, and of its left side with itself
swap_as : (defs : List Def) (a : Theorem) (s : Typ) (l p : Tm) → Within a.defs defs → p ≡ equal s l (right p) →
    CanTurn defs (plain defs (own_equality s)) (record a { concl = p }) (plain defs (equal s l l)) (plain defs (equal s l l))
swap_as defs a s l p w e = rw e (refl, w, whole, refl, refl, refl)

pub swap_asks : (defs : List Def) (a : Theorem) (s : Typ) (l : Tm) → Within a.defs defs → a.concl ≡ equal s l (right a.concl) →
    CanTurn defs (plain defs (own_equality s)) a (plain defs (equal s l l)) (plain defs (equal s l l))
swap_asks defs a s l w e = swap_as defs a s l a.concl w e

pub swap_gives : (p : Tm) (s : Typ) (l : Tm) → p ≡ equal s l (right p) → turned p (equal s l l) ≡ equal s (right p) l
swap_gives p s l e = rw e refl

side_truth : (p l r : Tm) → p ≡ equal truth_type l r → truth_type ≡ side_type p
side_truth p l r e = rw e refl

module _ (defs : List Def) (a b c d : Theorem) (h : CanCarry defs a b c d) where
  at_truth : truth_type ≡ side_type a.concl
  at_truth = side_truth a.concl (left a.concl) (right a.concl) h.2

  pub carry_asks : CanTurn defs (plain defs (own_equality truth_type)) a b c
  carry_asks = rw (← at_truth) (refl, h.0, h.1, h.2, h.3, h.4)

  carried_from : (p : Tm) → p ≡ equal truth_type (left a.concl) (right a.concl) → CanEqMp defs (by_both defs a b (equal (side_type p) (right p) (right b.concl))) (plain defs (right p))
  carried_from p e = rw e (whole, whole, refl)

  pub carry_last : CanEqMp defs (by_both defs a b (turned a.concl b.concl)) d
  carry_last = rw h.5 (carried_from a.concl h.2)

  pub carry_gives : by_both defs (by_both defs a b (turned a.concl b.concl)) d (right (turned a.concl b.concl)) ≡ by_both defs a b (right b.concl)
  carry_gives = rw h.5 refl

-- from an equation with `T`
pub meaning_asks : (defs : List Def) (a : Theorem) (p : Tm) → Within a.defs defs → p ≡ equal truth_type (left p) true_constant → CanTrans defs (by_one a.defs a p) (plain defs true_is)
meaning_asks defs a p w e = rw e (w, whole, refl, refl)

pub meaning_gives : (p : Tm) → p ≡ equal truth_type (left p) true_constant → trans_concl p true_is ≡ equal truth_type (left p) true_meaning
meaning_gives p e = rw e refl

pub establish_asks : (defs : List Def) (a b c : Theorem) → CanEstablish defs a b c → CanCarry defs (by_one defs a (equal truth_type (left a.concl) true_meaning)) b c (plain defs true_meaning)
establish_asks defs a b c h = (whole, h.1, refl, h.3, h.4, refl)

-- an equation without hypotheses before a theorem
pub convert_asks : (defs : List Def) (a b : Theorem) → CanConvert defs a b → CanEqMp defs a b
convert_asks defs a b h = (subst (λ (x : List Def). Within x defs) (sym (ap (λ (x : Theorem). x.defs) h.0)) whole, h.1, h.2)

pub convert_gives : (defs : List Def) (a b : Theorem) → a ≡ plain defs a.concl → IsSet b.hyps → ArePromises b.promises → (q : Tm) → by_both defs a b q ≡ by_one defs b q
convert_gives defs a b e k l q = subst (λ (x : Theorem). by_both defs x b q ≡ by_one defs b q) (sym e) (alone_after defs a.concl q b k l)

-- over one list
pub left_typed : (defs : List Def) (th : Theorem) → th.defs ≡ defs → IsTheorem th → th.concl ≡ equal truth_type (left th.concl) true_constant → IsWellTyped (signature_of defs) (left th.concl) truth_type
left_typed defs th o d e =
    let w = subst (λ (x : List Def). Within th.defs x) o whole in
    (lifted_sides defs th truth_type (left th.concl) true_constant w d e).left

pub establish_over : (defs : List Def) (a b : Theorem) → a.defs ≡ defs → b.defs ≡ defs → a.concl ≡ equal truth_type (left a.concl) true_constant → IsEquationFrom truth_type (left a.concl) b.concl →
    CanEstablish defs a b (plain defs (equal truth_type (left a.concl) (left a.concl)))
establish_over defs a b o p e f = (subst (λ (x : List Def). Within a.defs x) o whole, subst (λ (x : List Def). Within b.defs x) p whole, e, f, refl)

-- folding by an equation without hypotheses
abbrev Formulas : List Def → Tm → Tm → Theorem
Formulas defs l r = plain defs (equal truth_type l r)

pub fold_within : (defs : List Def) (a b : Theorem) → CanFold defs a b → Within a.defs defs
fold_within defs a b h = subst (λ (x : Theorem). Within x.defs defs) (sym h.0) whole

pub fold_shape : (defs : List Def) (a b : Theorem) → CanFold defs a b → a.concl ≡ equal truth_type (left a.concl) (right a.concl)
fold_shape defs a b h = ap (λ (x : Theorem). x.concl) h.0

swapped_is : (defs : List Def) (a : Theorem) (l r : Tm) → a ≡ Formulas defs l r → by_one defs a (equal truth_type r l) ≡ Formulas defs r l
swapped_is defs a l r e = ap (λ (x : Theorem). by_one defs x (equal truth_type r l)) e

pub fold_asks : (defs : List Def) (a b : Theorem) → CanFold defs a b → CanConvert defs (by_one defs a (equal truth_type (right a.concl) (left a.concl))) b
fold_asks defs a b h = (swapped_is defs a (left a.concl) (right a.concl) h.0, h.1, ap (λ (x : Tm). equal truth_type x (left a.concl)) (sym h.2))
