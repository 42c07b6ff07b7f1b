-- Each cell of a grid has a number.
use Rattle.std.proofs.Common.{◌≡◌, ◌<◌, ℕ, zero, suc, List, [], ◌∷◌, map, length, get_or, arith, inl, inr, sym, ◌∙◌, ap, subst, Option}
use Rattle.std.proofs.lemmas.Bool.{cases_lt}
use Rattle.std.proofs.lemmas.List.{map-append}
use Rattle.std.specs.List.{flat_map}
use Rattle.std.specs.Option.{unwrap_or}
use Rattle.fp_order.specs.declared.grid.Grid.{Grid}
use Rattle.fp_order.specs.declared.grid.Cell.{Cell}
use Rattle.fp_order.specs.Grid.{below, sources, targets, IsCell, columns_of, column_cells, source_cells, row_cells, number_in, all_added, cells_of}
use Rattle.fp_order.specs.Numbers.{number_of}
use Rattle.fp_order.proofs.Numbered.{HasNumber, number_at, all_added_append, added_stays, added_itself, flat_added}

map_added : (f : ℕ → Cell) (t n : ℕ) → t < n → (cells : List Cell) → HasNumber (all_added cells (map f (below n))) (f t)
map_added f t zero l cells = absurd (omega arith)
map_added f t (suc n) l cells =
    let e = ap (all_added cells) (map-append f (below n) (n ∷ [])) ∙ all_added_append cells (map f (below n)) (f n ∷ []) in
    let before = all_added cells (map f (below n)) in
    subst (λ (x : List Cell). HasNumber x (f t)) (sym e) (elim (cases_lt t n) [
      | inl m ↦ added_stays before (f n) (f t) (number_in before (f n)) (map_added f t n m cells)
      | inr m ↦ let s : n ≡ t = omega arith in let P : ℕ → Type 0 = λ i. HasNumber (all_added before (f n ∷ [])) (f i) in subst P s (added_itself before (f n))
    ])

pub has_number : (g : Grid) (x : Cell) → IsCell g x → HasNumber (cells_of g) x
has_number g x h =
    let first = flat_map (column_cells g) (columns_of g.functions) in
    let rest = flat_map (row_cells g) (below (length g.rows)) in
    subst (λ (t : List Cell). HasNumber t x) (sym (all_added_append [] first rest))
    (flat_added (row_cells g) x x.row (length g.rows) h.row
    (λ cells. flat_added (source_cells g x.row) x x.source (sources g x.row) h.source
    (λ more. map_added (λ t. record { row = x.row; source = x.source; target = t }) x.target (targets g x.row) h.target more) cells)
    (all_added [] first))

pub number_inside : (g : Grid) (x : Cell) → IsCell g x → number_of g x < length (cells_of g)
number_inside g x h =
    let t = has_number g x h in
    let e : number_of g x ≡ t.0 = ap (λ (o : Option ℕ). unwrap_or o 0) t.1 in
    rw e (number_at (cells_of g) x t.0 t.1).0

-- the cell stands at its number
pub number_holds : (g : Grid) (x : Cell) → IsCell g x → (d : Cell) → get_or (cells_of g) (number_of g x) d ≡ x
number_holds g x h d =
    let t = has_number g x h in
    let e : number_of g x ≡ t.0 = ap (λ (o : Option ℕ). unwrap_or o 0) t.1 in
    rw e ((number_at (cells_of g) x t.0 t.1).1 d)
