-- Back where something was added last.
use Rattle.std.proofs.Common.{◌≡◌, ◌∙◌, ℕ, ◌≤◌, List, [], ◌∷◌, ◌++◌, length, take, ap, arith}
use Rattle.std.proofs.Math.Seq.{take-append_seam}
use Rattle.fp_kernel.specs.Definitions.{Def, oldest}
use Rattle.fp_kernel.specs.Theorems.{Theorem}
use Rattle.fp_kernel.proofs.Oldest.{oldest_all, oldest_step}

pub back_from : (n : ℕ) (d : Def) (old new : List Def) → n ≡ length old → new ≡ d ∷ old → oldest n new ≡ old
back_from n d old new e same = let h : n ≤ length old = omega (arith, e) in ap (oldest n) same ∙ oldest_step n d old h ∙ oldest_all n old e

pub cut_back : (xs : List (List ℕ × Theorem)) (x : List ℕ × Theorem) → take (length xs) (xs ++ x ∷ []) ≡ xs
cut_back xs x = take-append_seam xs (x ∷ [])
