-- A theorem with the proof of its promise in the promise's place.
use Rattle.std.proofs.Common.{◌≡◌, ℕ, Bool, true, false, ◌&&◌, ◌==◌, List, [], ◌∷◌, length, refl as same_path, ap, subst, arith}
use Rattle.std.proofs.lemmas.Bool.Decides.{Decides-eqb}
use Rattle.fp_term.specs.Terms.{Tm}
use Rattle.fp_kernel.specs.Definitions.{Def, Within}
use Rattle.fp_kernel.specs.Start.{signature_of}
use Rattle.fp_kernel.specs.Derivability.{IsIn, IsFormula, Derives, promise_of}
use Rattle.fp_kernel.specs.Theorems.{Theorem, IsTheorem, promised, promise_union, without_promise, fulfils, fulfilled}
use Rattle.fp_kernel.specs.Known.{CanCut}
use Rattle.fp_kernel.proofs.Later.{later_all, met_all}
use Rattle.fp_kernel.proofs.Among.{first_promises, second_promises, that_or_kept}

both_of : (a b : Bool) → (a && b) ≡ true → (a ≡ true) × (b ≡ true)
both_of true b e = (same_path, e)
both_of false b e = cc

none_left : (hyps : List Tm) → length hyps ≡ 0 → hyps ≡ []
none_left [] e = same_path
none_left (t ∷ hyps) e = absurd (omega arith)

module _ {defs : List Def} (a : Theorem) (number : ℕ) (proof : Theorem) (d : IsTheorem a) (e : IsTheorem proof) where
  pub by_cut : CanCut defs a number proof → Derives defs (promise_union (without_promise (number, proof.concl) a.promises) proof.promises) a.hyps a.concl
  by_cut h =
      let q : ℕ × Tm = (number, proof.concl) in
      let rest = without_promise q a.promises in
      let all = promise_union rest proof.promises in
      let bare = both_of (promised q a.promises) (length proof.hyps == 0) h.2 in
      let none = none_left proof.hyps ((Decides-eqb (length proof.hyps) 0).0 bare.1) in
      let proved : Derives defs all [] proof.concl = subst (λ (hs : List Tm). Derives defs all hs proof.concl) none (later_all h.1 (second_promises rest proof.promises) e) in
      met_all h.0
      (λ n p k f. that_or_kept q (n, p) a.promises (Derives defs all [] p) k
      (λ same. subst (Derives defs all []) (ap (λ (r : ℕ × Tm). r.1) same) proved)
      (λ i. promise_of (first_promises rest proof.promises (n, p) i) f)) d
