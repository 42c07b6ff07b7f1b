-- Cells that are added one after another, with their numbers.
use Rattle.std.proofs.Common.{◌≡◌, ◌<◌, ◌+◌, ℕ, List, [], ◌∷◌, ◌++◌, map, take, length, get_or, set, refl, arith, inl, inr, sym, ◌∙◌, ap, subst, Option, Some, None, add-one, append-nil}
use Rattle.std.proofs.Math.Seq.{take-suc}
use Rattle.std.proofs.lemmas.Bool.{cases_eq}
use Rattle.std.proofs.lemmas.List.{map-append, get_or-set_same, get_or-set_other, length-set}
use Rattle.std.proofs.lemmas.Grind.{flat_map-append}
use Rattle.std.specs.List.{flat_map}
use Rattle.fp_order.specs.declared.grid.Grid.{Grid}
use Rattle.fp_order.specs.declared.grid.Cell.{Cell}
use Rattle.fp_order.specs.declared.numbering.Numbered.{Numbered}
use Rattle.fp_order.specs.Grid.{below, IsCell, number_in, added, all_added}
use Rattle.fp_order.specs.Numbers.{place_of, TellsNumbers, IsNumbered, Gains}
use Rattle.fp_order.proofs.Places.{place_one, place_inside}
use Rattle.fp_order.proofs.Numbered as numbered

pub gains_none : (g : Grid) (n : Numbered) → IsNumbered g n → Gains g n n []
gains_none g n h = record { cells = refl; numbered = h }

pub gains_both : (g : Grid) (a b c : Numbered) (xs ys : List Cell) → Gains g a b xs → Gains g b c ys → Gains g a c (xs ++ ys)
gains_both g a b c xs ys p q = record {
  cells = q.cells ∙ (ap (λ (t : List Cell). all_added t ys) p.cells ∙ sym (numbered.all_added_append a.cells.items xs ys));
  numbered = q.numbered;
}

pub gains_map : (g : Grid) (a b c : Numbered) (f : ℕ → Cell) (n : ℕ) → Gains g a b (map f (below n)) → Gains g b c (f n ∷ []) → Gains g a c (map f (below (n + 1)))
gains_map g a b c f n p q =
    let e : map f (below (n + 1)) ≡ map f (below n) ++ f n ∷ [] = rw add-one (map-append f (below n) (n ∷ [])) in
    subst (Gains g a c) (sym e) (gains_both g a b c (map f (below n)) (f n ∷ []) p q)

pub gains_flat : (g : Grid) (a b c : Numbered) (f : ℕ → List Cell) (n : ℕ) → Gains g a b (flat_map f (below n)) → Gains g b c (f n) → Gains g a c (flat_map f (below (n + 1)))
gains_flat g a b c f n p q =
    let e : flat_map f (below (n + 1)) ≡ flat_map f (below n) ++ f n = rw add-one (numbered.below_more f n) in
    subst (Gains g a c) (sym e) (gains_both g a b c (flat_map f (below n)) (f n) p q)

pub gains_columns : (g : Grid) (a b c : Numbered) (f : List ℕ → List Cell) (columns : List (List ℕ)) (i : ℕ) (x : List ℕ) → i < length columns → x ≡ get_or columns i x →
    Gains g a b (flat_map f (take i columns)) → Gains g b c (f x) → Gains g a c (flat_map f (take (i + 1) columns))
gains_columns g a b c f columns i x l s p q =
    let t : take (i + 1) columns ≡ take i columns ++ x ∷ [] =
    rw add-one (take-suc columns i x l ∙ ap (λ (y : List ℕ). take i columns ++ y ∷ []) (sym s)) in
    let e : flat_map f (take (i + 1) columns) ≡ flat_map f (take i columns) ++ f x =
    rw t (flat_map-append f (take i columns) (x ∷ []) ∙ ap (λ (y : List Cell). flat_map f (take i columns) ++ y) (append-nil (f x))) in
    subst (Gains g a c) (sym e) (gains_both g a b c (flat_map f (take i columns)) (f x) p q)

-- a cell that has a number
pub gains_there : (g : Grid) (n : Numbered) (x : Cell) → IsNumbered g n → IsCell g x → (get_or n.numbers.items (place_of g x) None ≡ None → ⊥) → Gains g n n (x ∷ [])
gains_there g n x h cell some = record { cells = sym (there (number_in n.cells.items x) (λ s. some (h.numbers x cell ∙ s))); numbered = h } where
  there : (o : Option ℕ) → (o ≡ None → ⊥) → added n.cells.items x o ≡ n.cells.items
  there None s = absurd (s refl)
  there (Some k) s = refl

-- a cell that had none
pub gains_new : (g : Grid) (old new : Numbered) (x : Cell) → IsNumbered g old → IsCell g x → get_or old.numbers.items (place_of g x) None ≡ None →
    new.cells.items ≡ old.cells.items ++ x ∷ [] → new.numbers.items ≡ set old.numbers.items (place_of g x) (Some (length old.cells.items)) → Gains g old new (x ∷ [])
gains_new g old new x h cell none cells numbers = record {
  cells = cells ∙ sym (ap (added old.cells.items x) free);
  numbered = record { len = ap length numbers ∙ (length-set old.numbers.items (place_of g x) (Some (length old.cells.items)) ∙ h.len); numbers = tells };
} where
  free : number_in old.cells.items x ≡ None
  free = sym (h.numbers x cell) ∙ none

  inside : place_of g x < length old.numbers.items
  inside = omega (arith, place_inside g x cell, h.len)

  tells : TellsNumbers g new.cells.items new.numbers.items
  tells y k = rw (cells, numbers) (elim (cases_eq (place_of g y) (place_of g x)) [
    | inl s ↦
        let e : x ≡ y = place_one g x y cell k (sym s) in
        let P : Cell → Type 0 = λ z. get_or (set old.numbers.items (place_of g x) (Some (length old.cells.items))) (place_of g z) None ≡ number_in (old.cells.items ++ x ∷ []) z in
        subst P e (get_or-set_same old.numbers.items (place_of g x) (Some (length old.cells.items)) None inside ∙ sym (numbered.number_last old.cells.items x free))
    | inr s ↦
        get_or-set_other old.numbers.items (place_of g x) (place_of g y) (Some (length old.cells.items)) None s
        ∙ (h.numbers y k ∙ sym (numbered.number_other old.cells.items x y (λ e. s (ap (place_of g) (sym e)))))
  ])
