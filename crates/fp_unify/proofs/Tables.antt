-- Reading and changing a table.
use Rattle.std.proofs.Common.{◌≡◌, ◌∙◌, ◌<◌, ◌≢◌, ◌+◌, ◌⊎◌, inl, inr, ℕ, zero, suc, List, [], ◌∷◌, length, get_or, set, sym, arith}
use Rattle.std.proofs.lemmas.List.{get_or_default, get_or-set_same, get_or-set_other}
use Rattle.std.proofs.lemmas.Bool.{cases_eq}
use Rattle.fp_term.specs.Types.{Typ}
use Rattle.fp_unify.specs.Cells.{cell, Meets, Fits, IsFine, AreFine, weight, weights}
use Rattle.fp_unify.specs.declared.table.Shape.{Shape}
use Rattle.fp_unify.specs.declared.table.Shape.TheVariants.{Open}

-- what was read is the cell
pub cell_read : (cells : List Shape) (i : ℕ) (x : Shape) → i < length cells → x ≡ get_or cells i x → cell cells i ≡ x
cell_read cells i x within e = sym (e ∙ get_or_default cells i x Open within)

-- what the read cell says
pub meets_read : (v : ℕ → Typ) (cells : List Shape) (i : ℕ) (x : Shape) → cell cells i ≡ x → Fits v cells → Meets v i x
meets_read v cells i x e f = rw (← e) (f.at i)

pub fine_read : (cells : List Shape) (i : ℕ) (x : Shape) → cell cells i ≡ x → AreFine cells → IsFine (length cells) i x
fine_read cells i x e f = rw (← e) (f.at i)

-- what holds of the other cells and of the new one holds of each
module _ (P : ℕ → Shape → Type 0) (cells : List Shape) (k : ℕ) (s : Shape) (within : k < length cells) where
  set_by : ((i : ℕ) → i ≢ k → P i (cell cells i)) → P k s → (i : ℕ) → (i ≡ k) ⊎ (i ≡ k → ⊥) → P i (cell (set cells k s) i)
  set_by f g i (inl same) = rw (same, get_or-set_same cells k s Open within) g
  set_by f g i (inr ne) = rw (get_or-set_other cells k i s Open ne) (f i ne)

  pub set_each : ((i : ℕ) → i ≢ k → P i (cell cells i)) → P k s → (i : ℕ) → P i (cell (set cells k s) i)
  set_each f g i = set_by f g i (cases_eq i k)

  unset_by : ((i : ℕ) → i ≢ k → P i (cell (set cells k s) i)) → P k (cell cells k) → (i : ℕ) → (i ≡ k) ⊎ (i ≡ k → ⊥) → P i (cell cells i)
  unset_by f g i (inl same) = rw same g
  unset_by f g i (inr ne) = rw (← get_or-set_other cells k i s Open ne) (f i ne)

  pub unset_each : ((i : ℕ) → i ≢ k → P i (cell (set cells k s) i)) → P k (cell cells k) → (i : ℕ) → P i (cell cells i)
  unset_each f g i = unset_by f g i (cases_eq i k)

-- the weight of a changed table
pub weights_set : (cells : List Shape) (k : ℕ) (s : Shape) → k < length cells → weights (set cells k s) + weight (cell cells k) ≡ weights cells + weight s
weights_set [] k s h = absurd (omega arith)
weights_set (t ∷ cells) zero s h = omega arith
weights_set (t ∷ cells) (suc k) s h = omega (arith, weights_set cells k s (omega arith))
