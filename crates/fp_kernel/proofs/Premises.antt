-- The rules on theorems: each is over an older list of definitions, and the result has the promises of all.
use Rattle.std.proofs.Common.{◌≡◌, ℕ, ◌==◌, Bool, true, false, cond, List, [], refl as same_path}
use Rattle.fp_term.specs.Types.{Typ}
use Rattle.fp_term.specs.Terms.{Tm}
use Rattle.fp_conclude.specs.Logic.{truth_type, equal}
use Rattle.fp_conclude.specs.Hypotheses.{union, without, all_replaced, all_retyped_terms}
use Rattle.fp_conclude.specs.Outcomes.{gives}
use Rattle.fp_conclude.specs.Rules.{trans_of, mk_comb_of, lam_of, eq_mp_of, inst_of, inst_ty_of}
use Rattle.fp_kernel.specs.Definitions.{Def, Within}
use Rattle.fp_kernel.specs.Start.{signature_of}
use Rattle.fp_kernel.specs.Derivability.{Derives, antisym}
use Rattle.fp_kernel.specs.Theorems.{Theorem, IsTheorem, promise_union}
use Rattle.fp_kernel.proofs.Later.{later_all}
use Rattle.fp_kernel.proofs.Among.{first_promises, second_promises}
use Rattle.fp_kernel.proofs.Sound.{trans_sound, mk_comb_sound, lam_sound, eq_mp_sound, inst_sound, inst_ty_sound}

-- a theorem over a longer list
pub alone : {defs : List Def} (a : Theorem) (p : Tm) → Within a.defs defs → IsTheorem a → p ≡ a.concl → Derives defs a.promises a.hyps p
alone a p w d e = rw e (later_all w (λ x i. i) d)

-- with another's promises after its own, and before them
pub before : {defs : List Def} (a b : Theorem) (p : Tm) → Within a.defs defs → IsTheorem a → p ≡ a.concl → Derives defs (promise_union a.promises b.promises) a.hyps p
before a b p w d e = rw e (later_all w (first_promises a.promises b.promises) d)

pub after : {defs : List Def} (a b : Theorem) (q : Tm) → Within b.defs defs → IsTheorem b → q ≡ b.concl → Derives defs (promise_union a.promises b.promises) b.hyps q
after a b q w d e = rw e (later_all w (second_promises a.promises b.promises) d)

module _ {defs : List Def} (a b : Theorem) (p q c : Tm) (w : Within a.defs defs) (x : Within b.defs defs) (d : IsTheorem a) (e : IsTheorem b) (is : p ≡ a.concl) (is' : q ≡ b.concl) where
  pub by_trans : trans_of p q ≡ gives c → Derives defs (promise_union a.promises b.promises) (union a.hyps b.hyps) c
  by_trans h = trans_sound p q c h (before a b p w d is) (after a b q x e is')

  pub by_mk_comb : mk_comb_of p q ≡ gives c → Derives defs (promise_union a.promises b.promises) (union a.hyps b.hyps) c
  by_mk_comb h = mk_comb_sound p q c h (before a b p w d is) (after a b q x e is')

  pub by_eq_mp : eq_mp_of p q ≡ gives c → Derives defs (promise_union a.promises b.promises) (union a.hyps b.hyps) c
  by_eq_mp h = eq_mp_sound p q c h (before a b p w d is) (after a b q x e is')

pub by_antisym : {defs : List Def} (a b : Theorem) → Within a.defs defs → Within b.defs defs → IsTheorem a → IsTheorem b →
    Derives defs (promise_union a.promises b.promises) (union (without b.concl a.hyps) (without a.concl b.hyps)) (equal truth_type a.concl b.concl)
by_antisym a b w x d e = antisym (before a b a.concl w d same_path) (after a b b.concl x e same_path)

module _ {defs : List Def} (a : Theorem) (p c : Tm) (w : Within a.defs defs) (d : IsTheorem a) (is : p ≡ a.concl) where
  pub by_lam : (name : List ℕ) (ty : Typ) → lam_of (signature_of defs) name ty a.hyps p ≡ gives c → Derives defs a.promises a.hyps c
  by_lam name ty h = lam_sound name ty p c h (alone a p w d is)

  pub by_inst : (pairs : List (List ℕ × Typ × Tm)) → inst_of (signature_of defs) pairs p ≡ gives c → Derives defs a.promises (all_replaced pairs a.hyps) c
  by_inst pairs h = inst_sound pairs p c h (alone a p w d is)

  pub by_inst_ty : (pairs : List (List ℕ × Typ)) → inst_ty_of (signature_of defs) pairs p ≡ gives c → Derives defs a.promises (all_retyped_terms pairs a.hyps) c
  by_inst_ty pairs h = inst_ty_sound pairs p c h (alone a p w d is)
