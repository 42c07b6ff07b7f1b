-- The names of the letters are none of the known ones, and different.
use Rattle.std.proofs.Common.{◌≡◌, ◌<◌, ℕ, suc, ◌+◌, ◌^◌, Bool, true, false, List, refl, sym, arith}
use Rattle.std.specs.Str.{bytes_eq}
use Rattle.std.proofs.lemmas.Slice.Eq.{bytes_eq-Decides}
use Rattle.fp_group.specs.declared.clause.Head.{Head}
use Rattle.fp_spec.specs.declared.letters.Letters.{Letters}
use Rattle.fp_spec.specs.Helpers.{helper_number, helper}
use Rattle.fp_spec.specs.Defining.{letters_by, AreNew}
use Rattle.fp_spec.proofs.Fresh.{greater, helper_is_new, helpers_differ}

decided : (b : Bool) (P : Type 0) → (b ≡ true → P) → (P → ⊥) → b ≡ false
decided true P made refused = absurd (refused (made refl))
decided false P made refused = refl

module _ (known : List (List ℕ)) (low : helper_number known 4 < 2 ^ 32) where
  lower : (m k : ℕ) → m + suc k ≡ 4 → helper_number known m < 2 ^ 32
  lower m k e = let h = greater known m k in let f : helper_number known (m + suc k) < 2 ^ 32 = rw e low in omega (arith, h, f)

  later : (m k : ℕ) → helper_number known (m + suc k) < 2 ^ 32 → bytes_eq (helper known (m + suc k)) (helper known m) ≡ false
  later m k h =
      decided (bytes_eq (helper known (m + suc k)) (helper known m)) (helper known m ≡ helper known (m + suc k))
      (λ e. sym ((bytes_eq-Decides (helper known (m + suc k)) (helper known m)).0 e)) (λ e. helpers_differ known m k h e)

  pub letters_new : (heads : List Head) → AreNew known (letters_by known heads)
  letters_new heads =
      let l1 = lower 1 2 refl in
      let l2 = lower 2 1 refl in
      let l3 = lower 3 0 refl in
      record {
        unused = (helper_is_new known 0 (lower 0 3 refl), (helper_is_new known 1 l1, (helper_is_new known 2 l2, (helper_is_new known 3 l3, (helper_is_new known 4 low, tt)))));
        different =
            (rw (later 0 0 l1, later 0 1 l2, later 0 2 l3, later 0 3 low) refl, (rw (later 1 0 l2, later 1 1 l3, later 1 2 low) refl, (rw (later 2 0 l3, later 2 1 low) refl, (rw (later 3 0 low) refl, (refl, tt)))));
      }

pub letters_are_new : (known : List (List ℕ)) (heads : List Head) (l : Letters) → helper_number known 4 < 2 ^ 32 → l ≡ letters_by known heads → AreNew known l
letters_are_new known heads l low e = rw e (letters_new known low heads)
