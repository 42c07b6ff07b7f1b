-- What is left after one more list of patterns.
use Rattle.std.proofs.Common.{◌≡◌, ◌≤◌, ◌<◌, ℕ, true, false, ◌==◌, List, [], ◌∷◌, get_or, drop, take, ◌-◌, arith}
use Rattle.std.proofs.lemmas.List.{take_all}
use Rattle.std.proofs.lemmas.Bool.Decides.{Decides-eqb}
use Rattle.std.specs.Prelude.{Option, Some, None, Result, IfOk, length}
use Rattle.fp_term.specs.Terms.{Tm}
use Rattle.fp_term.specs.declared.signature.Signature.{Signature}
use Rattle.fp_group.specs.declared.constructors.ConTable.{ConTable}
use Rattle.fp_group.specs.declared.clause.Clause.{Clause}
use Rattle.fp_pattern.specs.Subtraction.{AreMinus, IsLeft, whole, less}
use Rattle.fp_pattern.specs.Completed.{patterns_of, IsLeftWithin, all_taken, one_taken_off, Passes, passes_now, passes_later, IsLimited}
use Rattle.fp_pattern.proofs.Splits.{if_ok}

module _ (table : ConTable) (sig : Signature) (f : List ℕ) where
  pub end_within : (function : ℕ) (now : List Clause) → IsLeftWithin table sig f (patterns_of function []) now now
  end_within function now = all_taken now

  pub skip_within :
      {E : Type 0} (r : Result (Option (List Clause)) E) (function : ℕ) (c : Clause) (rest now : List Clause) → (c.function == function) ≡ false →
      IfOk r (λ o. IsLimited table sig f (patterns_of function rest) now o) → IfOk r (λ o. IsLimited table sig f (patterns_of function (c ∷ rest)) now o)
  skip_within r function c rest now e h = rw e h

  pub pass_within :
      (function : ℕ) (c : Clause) (rest now next : List Clause) → (c.function == function) ≡ true → AreMinus table sig f c.patterns now next → 256 < length next →
      Passes table sig f (patterns_of function (c ∷ rest)) now
  pass_within function c rest now next e m h = rw e (passes_now c.patterns (patterns_of function rest) now next m h)

  one_off : (q : List Tm) (qs : List (List Tm)) (now next : List Clause) → AreMinus table sig f q now next → length next ≤ 256 → (o : Option (List Clause)) → IsLimited table sig f qs next o → IsLimited table sig f (q ∷ qs) now o
  one_off q qs now next m le None h = passes_later q qs now next m le h
  one_off q qs now next m le (Some left) h = one_taken_off q qs now next left m le h

  pub go_within :
      {E : Type 0} (r : Result (Option (List Clause)) E) (function : ℕ) (c : Clause) (rest now next : List Clause) → (c.function == function) ≡ true → AreMinus table sig f c.patterns now next → length next ≤ 256 →
      IfOk r (λ o. IsLimited table sig f (patterns_of function rest) next o) → IfOk r (λ o. IsLimited table sig f (patterns_of function (c ∷ rest)) now o)
  go_within r function c rest now next e m le h = rw e (if_ok r _ _ (one_off c.patterns (patterns_of function rest) now next m le) h)

  pub skip_left :
      {E : Type 0} (r : Result (List Clause) E) (function : ℕ) (c : Clause) (rest now : List Clause) → (c.function == function) ≡ false →
      IfOk r (λ o. IsLeft table sig f (patterns_of function rest) now o) → IfOk r (λ o. IsLeft table sig f (patterns_of function (c ∷ rest)) now o)
  skip_left r function c rest now e h = rw e h

  pub go_left :
      {E : Type 0} (r : Result (List Clause) E) (function : ℕ) (c : Clause) (rest now next : List Clause) → (c.function == function) ≡ true → AreMinus table sig f c.patterns now next →
      IfOk r (λ o. IsLeft table sig f (patterns_of function rest) next o) → IfOk r (λ o. IsLeft table sig f (patterns_of function (c ∷ rest)) now o)
  go_left r function c rest now next e m h = rw e (if_ok r _ _ (λ left k. less c.patterns (patterns_of function rest) now next left m k) h)

  rest_is : (x : Clause) (cs : List Clause) → take (length (x ∷ cs) - 1) cs ≡ cs
  rest_is x cs = take_all (length (x ∷ cs) - 1) cs (omega arith)

  -- the same of a list that is looked at by its first clause
  pub empty_left : (function : ℕ) (cs now : List Clause) → length cs < 1 → IsLeft table sig f (patterns_of function cs) now now
  empty_left function [] now h = whole now
  empty_left function (c ∷ cs) now h = let no : ⊥ = omega arith in absurd no

  pub empty_within : (function : ℕ) (cs now : List Clause) → length cs < 1 → IsLeftWithin table sig f (patterns_of function cs) now now
  empty_within function [] now h = all_taken now
  empty_within function (c ∷ cs) now h = let no : ⊥ = omega arith in absurd no

  pub first_left :
      {E : Type 0} (r : Result (List Clause) E) (function : ℕ) (cs : List Clause) (c : Clause) (now next : List Clause) → 1 ≤ length cs → c ≡ get_or cs 0 c → c.function ≡ function → AreMinus table sig f c.patterns now next →
      IfOk r (λ o. IsLeft table sig f (patterns_of function (take (length cs - 1) (drop 1 cs))) next o) → IfOk r (λ o. IsLeft table sig f (patterns_of function cs) now o)
  first_left r function [] c now next le e is m h = let no : ⊥ = omega arith in absurd no
  first_left r function (x ∷ cs) c now next le e is m h = go_left r function x cs now next ((Decides-eqb x.function function).1 (rw (← e) is)) (rw e at m) (rw (rest_is x cs) at h)

  pub first_within :
      {E : Type 0} (r : Result (Option (List Clause)) E) (function : ℕ) (cs : List Clause) (c : Clause) (now next : List Clause) → 1 ≤ length cs → c ≡ get_or cs 0 c → c.function ≡ function →
      AreMinus table sig f c.patterns now next → length next ≤ 256 → IfOk r (λ o. IsLimited table sig f (patterns_of function (take (length cs - 1) (drop 1 cs))) next o) → IfOk r (λ o. IsLimited table sig f (patterns_of function cs) now o)
  first_within r function [] c now next le e is m short h = let no : ⊥ = omega arith in absurd no
  first_within r function (x ∷ cs) c now next le e is m short h = go_within r function x cs now next ((Decides-eqb x.function function).1 (rw (← e) is)) (rw e at m) short (rw (rest_is x cs) at h)
