-- Functions and what they are expanded to.
use Rattle.std.proofs.Common.{◌≡◌, ◌∙◌, ℕ, ◌+◌, Bool, true, false, ◌&&◌, ◌||◌, List, [], ◌∷◌, refl, sym, ap, subst}
use Rattle.std.specs.Prelude.{Some, codes}
use Rattle.std.specs.Str.{bytes_eq}
use Rattle.std.proofs.lemmas.Option.{same_Some}
use Rattle.std.proofs.lemmas.Bool.Decides.{Decides-and}
use Rattle.std.proofs.lemmas.Slice.Eq.{bytes_eq-Decides}
use Rattle.fp_term.specs.Types.{Typ, type_eq}
use Rattle.fp_term.specs.Terms.{Tm, bound, free, constant, app, abs, closed, replaced}
use Rattle.fp_term.specs.Typing.{type_under, function_type}
use Rattle.fp_term.specs.Signatures.{IsType, IsWellTyped}
use Rattle.fp_term.proofs.Equal.{type_eq-decides}
use Rattle.fp_term.proofs.Typed.{app_parts}
use Rattle.fp_term.specs.declared.signature.Signature.{Signature}
use Rattle.fp_conclude.specs.Logic.{equal}
use Rattle.fp_conclude.specs.Hypotheses.{IsSet, occurs, occurs_in_any}
use Rattle.fp_kernel.specs.Definitions.{Def, Within, whole}
use Rattle.fp_kernel.specs.Start.{signature_of}
use Rattle.fp_kernel.specs.Theorems.{Theorem, IsTheorem, ArePromises, plain, by_one, by_both}
use Rattle.fp_kernel.specs.Known.{CanTrans, CanLam}
use Rattle.fp_conclude.specs.Known.{trans_concl, lam_concl}
use Rattle.fp_logic.proofs.Turning.{lifted_sides, alone_after}
use Rattle.fp_quant.specs.Meanings.{expansion, eta_at}

neither : (a b : Bool) → (a || b) ≡ false → (a ≡ false) × (b ≡ false)
neither true b e = cc
neither false b e = (refl, e)

module _ (name : List ℕ) (ty : Typ) where
  itself : (bytes_eq name name && type_eq ty ty) ≡ true
  itself = (Decides-and (bytes_eq name name) (type_eq ty ty) (bytes_eq-Decides name name) (type_eq-decides ty ty)).1 (refl, refl)

  -- where the variable isn't free, closing over it changes nothing
  closed_apart : (at : ℕ) (t : Tm) → occurs name ty t ≡ false → closed at name ty t ≡ t
  closed_apart at (bound n) e = refl
  closed_apart at (free a s) e = rw e refl
  closed_apart at (constant a s) e = refl
  closed_apart at (app f x) e =
      let p = neither (occurs name ty f) (occurs name ty x) e in
      rw (closed_apart at f p.0, closed_apart at x p.1) refl
  closed_apart at (abs s x) e = ap (abs s) (closed_apart (at + 1) x e)

  closed_variable : closed 0 name ty (free name ty) ≡ bound 0
  closed_variable = rw itself refl

  -- a function at the variable, closed over it
  expansion_of : (f : Tm) → occurs name ty f ≡ false → abs ty (closed 0 name ty (app f (free name ty))) ≡ expansion ty f
  expansion_of f e = rw (closed_apart 0 f e, closed_variable) refl

  abstractions_as : (to : Typ) (f g p : Tm) → occurs name ty f ≡ false → occurs name ty g ≡ false → p ≡ equal to (app f (free name ty)) (app g (free name ty)) →
      lam_concl name ty p ≡ equal (function_type ty to) (expansion ty f) (expansion ty g)
  abstractions_as to f g p h k e = rw (e, expansion_of f h, expansion_of g k) refl

  -- a term for the variable
  pub put_for : (t : Tm) → replaced ((name, ty, t) ∷ []) (free name ty) ≡ t
  put_for t = rw itself refl

-- the first axiom at a function
pub eta_put : (from to : Typ) (f : Tm) → replaced ((codes "t", function_type from to, f) ∷ []) (eta_at from to (free (codes "t") (function_type from to))) ≡ eta_at from to f
eta_put from to f = ap (eta_at from to) (put_for (codes "t") (function_type from to) f)

-- the functions of a theorem `f x = g x`
applied_typed : (g : Signature) (name : List ℕ) (s r : Typ) (f : Tm) → IsWellTyped g (app f (free name s)) r → IsWellTyped g f (function_type s r)
applied_typed g name s r f h =
    let b = app_parts [] f (free name s) r h.typed in
    record { typed = subst (λ (v : Typ). type_under [] f ≡ Some (function_type v r)) (sym (same_Some s b.0 b.2)) b.1; over = h.over.0 }

pub record AreFunctions (g : Signature) (from to : Typ) (t u : Tm) : Type 0 where
  pub left : IsWellTyped g t (function_type from to)
  pub right : IsWellTyped g u (function_type from to)

pub functions_of : (defs : List Def) (name : List ℕ) (from to : Typ) (f g : Tm) (a : Theorem) → Within a.defs defs → IsTheorem a → a.concl ≡ equal to (app f (free name from)) (app g (free name from)) →
    AreFunctions (signature_of defs) from to f g
functions_of defs name from to f g a w d e =
    let h = lifted_sides defs a to (app f (free name from)) (app g (free name from)) w d e in
    record { left = applied_typed (signature_of defs) name from to f h.left; right = applied_typed (signature_of defs) name from to g h.right }

-- what was abstracted
pub alike_is : (defs : List Def) (name : List ℕ) (from to : Typ) (f g : Tm) (a : Theorem) → occurs name from f ≡ false → occurs name from g ≡ false →
    a.concl ≡ equal to (app f (free name from)) (app g (free name from)) →
    by_one defs a (lam_concl name from a.concl) ≡ by_one defs a (equal (function_type from to) (expansion from f) (expansion from g))
alike_is defs name from to f g a h k e = ap (by_one defs a) (abstractions_as name from to f g a.concl h k e)

pub abstract_asks : (defs : List Def) (name : List ℕ) (from to : Typ) (f g : Tm) (a : Theorem) → Within a.defs defs → IsType (signature_of defs) from → occurs_in_any name from a.hyps ≡ false →
    a.concl ≡ equal to (app f (free name from)) (app g (free name from)) → CanLam defs name from a
abstract_asks defs name from to f g a w h k e = (w, h, rw e refl, k)

-- the one expansion reduced, and then the other
left_as : (defs : List Def) (from to : Typ) (f g p : Tm) (a : Theorem) → Within a.defs defs → p ≡ equal (function_type from to) (expansion from f) (expansion from g) →
    CanTrans defs (plain defs (equal (function_type from to) f (expansion from f))) (record a { concl = p })
left_as defs from to f g p a w e = rw e (whole, w, refl, refl)

pub left_asks : (defs : List Def) (from to : Typ) (f g : Tm) (a : Theorem) → Within a.defs defs → a.concl ≡ equal (function_type from to) (expansion from f) (expansion from g) →
    CanTrans defs (plain defs (equal (function_type from to) f (expansion from f))) a
left_asks defs from to f g a w e = left_as defs from to f g a.concl a w e

pub left_gives : (defs : List Def) (from to : Typ) (f g : Tm) (a : Theorem) → a.concl ≡ equal (function_type from to) (expansion from f) (expansion from g) → IsSet a.hyps → ArePromises a.promises →
    by_both defs (plain defs (equal (function_type from to) f (expansion from f))) a (trans_concl (equal (function_type from to) f (expansion from f)) a.concl)
    ≡ by_one defs a (equal (function_type from to) f (expansion from g))
left_gives defs from to f g a e h k =
    alone_after defs (equal (function_type from to) f (expansion from f)) (trans_concl (equal (function_type from to) f (expansion from f)) a.concl) a h k
    ∙ ap (λ (x : Tm). by_one defs a (trans_concl (equal (function_type from to) f (expansion from f)) x)) e

right_as : (defs : List Def) (from to : Typ) (f g p : Tm) (a : Theorem) → Within a.defs defs → p ≡ equal (function_type from to) f (expansion from g) →
    CanTrans defs (record a { concl = p }) (plain defs (eta_at from to g))
right_as defs from to f g p a w e = rw e (w, whole, refl, refl)

pub right_asks : (defs : List Def) (from to : Typ) (f g : Tm) (a : Theorem) → Within a.defs defs → a.concl ≡ equal (function_type from to) f (expansion from g) → CanTrans defs a (plain defs (eta_at from to g))
right_asks defs from to f g a w e = right_as defs from to f g a.concl a w e

pub right_gives : (defs : List Def) (from to : Typ) (f g : Tm) (a : Theorem) → a.concl ≡ equal (function_type from to) f (expansion from g) →
    by_both defs a (plain defs (eta_at from to g)) (trans_concl a.concl (eta_at from to g)) ≡ by_one defs a (equal (function_type from to) f g)
right_gives defs from to f g a e = ap (λ (x : Tm). by_one defs a (trans_concl x (eta_at from to g))) e
