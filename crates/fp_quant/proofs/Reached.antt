-- The steps to and from what is said of some value.
use Rattle.std.proofs.Common.{◌≡◌, ◌∙◌, ℕ, ◌+◌, Bool, true, false, ◌&&◌, ◌||◌, List, refl, sym, ap, subst}
use Rattle.std.specs.Prelude.{codes}
use Rattle.std.specs.Str.{bytes_eq}
use Rattle.std.proofs.lemmas.Bool.Decides.{Decides-and}
use Rattle.std.proofs.lemmas.Slice.Eq.{bytes_eq-Decides}
use Rattle.fp_term.specs.Types.{Typ, type_eq}
use Rattle.fp_term.specs.Terms.{Tm, bound, free, constant, app, abs, closed}
use Rattle.fp_term.specs.Signatures.{IsWellTyped}
use Rattle.fp_term.proofs.Equal.{type_eq-decides}
use Rattle.fp_conclude.specs.Logic.{truth_type, binary_type, equal, connective, implication}
use Rattle.fp_conclude.specs.Hypotheses.{occurs}
use Rattle.fp_kernel.specs.Definitions.{Def, Within, whole}
use Rattle.fp_kernel.specs.Start.{signature_of}
use Rattle.fp_kernel.specs.Theorems.{Theorem, plain, by_both}
use Rattle.fp_conclude.specs.Shapes.{left, right, IsAbstraction}
use Rattle.fp_kernel.specs.Known.{CanMkComb}
use Rattle.fp_conclude.specs.Known.{mk_comb_concl}
use Rattle.fp_quant.specs.Existence.{IsPredicate}

pub over : (old defs : List Def) → old ≡ defs → Within old defs
over old defs e = subst (λ (x : List Def). Within old x) e whole

-- a theorem without hypotheses and promises
pub itself_plain : (defs : List Def) (th : Theorem) (p : Tm) → th ≡ plain defs p → th ≡ plain defs th.concl
itself_plain defs th p e = e ∙ ap (plain defs) (sym (ap (λ (x : Theorem). x.concl) e))

pub is_abstraction : (t : Tm) (s : Typ) (body : Tm) → t ≡ abs s body → IsAbstraction t
is_abstraction t s body e = subst IsAbstraction (sym e) refl

pub variable_typed : (defs : List Def) (name : List ℕ) (s : Typ) (p : Tm) → IsPredicate defs s p → IsWellTyped (signature_of defs) (free name s) s
variable_typed defs name s p h = record { typed = refl; over = h.0 }

-- an implication of equal premises
abbrev pub own_imp : Tm
own_imp = let t = connective (codes "imp") in equal (binary_type truth_type truth_type) t t

abbrev Equation : List Def → Theorem → Type 0
Equation defs a = a ≡ plain defs (equal truth_type (left a.concl) (right a.concl))

abbrev Once : List Def → Theorem → Theorem
Once defs a = by_both defs (plain defs own_imp) a (mk_comb_concl own_imp a.concl)

abbrev Itself : List Def → Tm → Theorem
Itself defs t = plain defs (equal truth_type t t)

once_at : (defs : List Def) (l r : Tm) → CanMkComb defs (plain defs own_imp) (plain defs (equal truth_type l r))
once_at defs l r = (whole, whole, refl, refl)

pub once_asks : (defs : List Def) (a : Theorem) → Equation defs a → CanMkComb defs (plain defs own_imp) a
once_asks defs a e = subst (CanMkComb defs (plain defs own_imp)) (sym e) (once_at defs (left a.concl) (right a.concl))

twice_at : (defs : List Def) (l r t : Tm) → CanMkComb defs (Once defs (plain defs (equal truth_type l r))) (Itself defs t)
twice_at defs l r t = (whole, whole, refl, refl)

pub twice_asks : (defs : List Def) (a : Theorem) (t : Tm) → Equation defs a → CanMkComb defs (Once defs a) (Itself defs t)
twice_asks defs a t e = subst (λ (x : Theorem). CanMkComb defs (Once defs x) (Itself defs t)) (sym e) (twice_at defs (left a.concl) (right a.concl) t)

abbrev Twice : List Def → Theorem → Tm → Theorem
Twice defs a t = by_both defs (Once defs a) (Itself defs t) (mk_comb_concl (Once defs a).concl (equal truth_type t t))

pub twice_gives : (defs : List Def) (a : Theorem) (t : Tm) → Equation defs a → Twice defs a t ≡ plain defs (equal truth_type (implication (left a.concl) t) (implication (right a.concl) t))
twice_gives defs a t e = ap (λ (x : Theorem). Twice defs x t) e

-- where a variable isn't free, closing over it changes nothing
pub neither : (a b : Bool) → (a || b) ≡ false → (a ≡ false) × (b ≡ false)
neither true b e = cc
neither false b e = (refl, e)

module _ (name : List ℕ) (ty : Typ) where
  itself : (bytes_eq name name && type_eq ty ty) ≡ true
  itself = (Decides-and (bytes_eq name name) (type_eq ty ty) (bytes_eq-Decides name name) (type_eq-decides ty ty)).1 (refl, refl)

  closed_apart : (at : ℕ) (t : Tm) → occurs name ty t ≡ false → closed at name ty t ≡ t
  closed_apart at (bound n) e = refl
  closed_apart at (free a s) e = rw e refl
  closed_apart at (constant a s) e = refl
  closed_apart at (app f x) e =
      let p = neither (occurs name ty f) (occurs name ty x) e in
      rw (closed_apart at f p.0, closed_apart at x p.1) refl
  closed_apart at (abs s x) e = ap (abs s) (closed_apart (at + 1) x e)

  pub closed_implied : (p q : Tm) → occurs name ty p ≡ false → occurs name ty q ≡ false → closed 0 name ty (implication (app p (free name ty)) q) ≡ implication (app p (bound 0)) q
  closed_implied p q e f = rw (closed_apart 0 p e, closed_apart 0 q f, itself) refl
