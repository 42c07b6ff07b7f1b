-- Names of binders that were made before.
use Rattle.std.proofs.Common.{◌≡◌, ◌∙◌, ℕ, zero, suc, List, [], ◌∷◌, ◌++◌, ◌⊎◌, inl, inr, length, refl, sym, ap, arith, length-append}
use Rattle.std.specs.Prelude.{Some}
use Rattle.std.specs.List.{slice_get}
use Rattle.std.proofs.lemmas.Option.{none-some, same_Some}
use Rattle.fp_print.specs.Names.{binder_name, binder_names}

pub binder_names_length : (used : List (List ℕ)) (n : ℕ) → length (binder_names used n) ≡ n
binder_names_length used zero = refl
binder_names_length used (suc n) =
    let longer = length-append (binder_names used n) (binder_name used n ∷ []) in
    omega (arith, longer, binder_names_length used n)

-- what stands somewhere in a longer list stood there before, or is the last
at_last : (xs : List (List ℕ)) (x name : List ℕ) (d : ℕ) → slice_get (xs ++ x ∷ []) d ≡ Some name → (slice_get xs d ≡ Some name) ⊎ ((d ≡ length xs) × (x ≡ name))
at_last [] x name zero e = inr (refl, same_Some x name e)
at_last [] x name (suc d) e = absurd (none-some name e)
at_last (y ∷ xs) x name zero e = inl e
at_last (y ∷ xs) x name (suc d) e = elim (at_last xs x name d e) [ inl i ↦ inl i | inr i ↦ inr (ap suc i.0, i.1) ]

made_name : (used : List (List ℕ)) (n d : ℕ) (name : List ℕ) → slice_get (binder_names used n) d ≡ Some name → name ≡ binder_name used d
made_name used zero d name e = absurd (none-some name e)
made_name used (suc n) d name e = elim (at_last (binder_names used n) (binder_name used n) name d e) [
  | inl i ↦ made_name used n d name i
  | inr i ↦ sym i.1 ∙ ap (binder_name used) (sym (i.0 ∙ binder_names_length used n))
]

pub known_name : (used known : List (List ℕ)) (d : ℕ) (name : List ℕ) → known ≡ binder_names used (length known) → slice_get known d ≡ Some name → name ≡ binder_name used d
known_name used known d name is e = made_name used (length known) d name (ap (λ l. slice_get l d) (sym is) ∙ e)
