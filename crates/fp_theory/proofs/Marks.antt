-- A theory that has grown since it was marked is cut to what it was.
use Rattle.std.proofs.Common.{◌≡◌, ◌∙◌, ℕ, ◌≤◌, List, [], ◌++◌, length, take, refl, sym, ap, subst, arith, length-append}
use Rattle.std.proofs.lemmas.List.{append-nil}
use Rattle.std.proofs.Math.Seq.{take-append_seam}
use Rattle.fp_kernel.specs.Definitions.{Def, Within, whole, newer, oldest}
use Rattle.fp_kernel.proofs.Oldest.{oldest_all, oldest_step}
use Rattle.fp_theory.specs.State.{State, IsTheory}
use Rattle.fp_theory.specs.Changes.{IsMarkOf, IsAtMost, cut_to, Extends}
use Rattle.fp_theory.specs.declared.mark.Mark.{Mark}

fewer : {old new : List Def} → Within old new → length old ≤ length new
fewer whole = omega arith
fewer (newer d w) = let h = fewer w in omega arith

oldest_of : {old new : List Def} (n : ℕ) → n ≡ length old → Within old new → oldest n new ≡ old
oldest_of {old} n e whole = oldest_all n old e
oldest_of n e (newer {defs = defs} d w) = let h = fewer w in oldest_step n d defs (omega (arith, e, h)) ∙ oldest_of n e w

first_of_both : {A : Type 0} (n : ℕ) (xs ys zs : List A) → n ≡ length xs → zs ≡ xs ++ ys → take n zs ≡ xs
first_of_both n xs ys zs e f = ap (take n) f ∙ ap (λ k. take k (xs ++ ys)) e ∙ take-append_seam xs ys

pub cut_back_to : (old new : State) (m : Mark) → IsMarkOf old m → Extends old new → cut_to m new ≡ old
cut_back_to old new m h e =
    let a = oldest_of m.defs h.defs e.defs in
    let b = first_of_both m.named old.named e.named.0 new.named h.named e.named.1 in
    let c = first_of_both m.simps old.simps e.simps.0 new.simps h.simps e.simps.1 in
    let d = first_of_both m.congs old.congs e.congs.0 new.congs h.congs e.congs.1 in
    let f = first_of_both m.types old.types e.types.0 new.types h.types e.types.1 in
    rw (a, b, c, d, f) refl

-- so the conditions of going back hold
pub theory_back : (old new : State) (m : Mark) → IsMarkOf old m → Extends old new → IsTheory old → IsTheory (cut_to m new)
theory_back old new m h e k = subst IsTheory (sym (cut_back_to old new m h e)) k

longer : {A : Type 0} (xs ys zs : List A) → zs ≡ xs ++ ys → length xs ≤ length zs
longer xs ys zs e = rw e (omega (arith, length-append xs ys))

pub most_back : (old new : State) (m : Mark) → IsMarkOf old m → Extends old new → IsAtMost m new
most_back old new m h e =
    let a = fewer e.defs in
    let b = longer old.named e.named.0 new.named e.named.1 in
    let c = longer old.simps e.simps.0 new.simps e.simps.1 in
    let d = longer old.congs e.congs.0 new.congs e.congs.1 in
    let f = longer old.types e.types.0 new.types e.types.1 in
    record {
      defs = omega (arith, a, h.defs);
      named = omega (arith, b, h.named);
      simps = omega (arith, c, h.simps);
      congs = omega (arith, d, h.congs);
      types = omega (arith, f, h.types);
    }

pub extends_itself : (state : State) → Extends state state
extends_itself state = record {
  defs = whole;
  named = ([], sym (append-nil state.named));
  simps = ([], sym (append-nil state.simps));
  congs = ([], sym (append-nil state.congs));
  types = ([], sym (append-nil state.types));
}
