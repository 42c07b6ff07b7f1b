-- Each cell of the list of cells is a cell of the grid.
use Rattle.std.proofs.Common.{◌<◌, ℕ, zero, suc, List, [], ◌∷◌, ◌++◌, map, length, arith, Option, Some, None}
use Rattle.std.proofs.lemmas.List.Elements.{All-nil, All-cons, All-head, All-tail, All-append, All-get_or}
use Rattle.std.proofs.lemmas.List.{map-append}
use Rattle.std.specs.List.{All, flat_map}
use Rattle.fp_order.specs.declared.grid.Grid.{Grid}
use Rattle.fp_order.specs.declared.grid.Cell.{Cell}
use Rattle.fp_order.specs.Grid.{below, sources, targets, columns_of, cell_on, column_cells, source_cells, row_cells, number_in, added, all_added, cells_of, IsGrid, IsCell, IsColumn}
use Rattle.fp_order.proofs.CutLists.{columns_fit}
use Rattle.fp_order.proofs.Numbered.{below_more}
use Rattle.fp_shown.specs.Shown.{row_of}
use Rattle.fp_shown.proofs.Inside.{cell_fits}

map_all : (P : Cell → Type 0) (f : ℕ → Cell) (n m : ℕ) → n < suc m → ((i : ℕ) → i < m → P (f i)) → All P (map f (below n))
map_all P f zero m l h = All-nil P
map_all P f (suc n) m l h = rw (map-append f (below n) (n ∷ [])) (All-append P (map f (below n)) (f n ∷ []) (map_all P f n m (omega arith) h) (All-cons P (f n) [] (h n (omega arith)) (All-nil P)))

flat_all : (P : Cell → Type 0) (f : ℕ → List Cell) (n m : ℕ) → n < suc m → ((i : ℕ) → i < m → All P (f i)) → All P (flat_map f (below n))
flat_all P f zero m l h = All-nil P
flat_all P f (suc n) m l h = rw (below_more f n) (All-append P (flat_map f (below n)) (f n) (flat_all P f n m (omega arith) h) (h n (omega arith)))

columns_all : (P : Cell → Type 0) (Q : List ℕ → Type 0) (f : List ℕ → List Cell) → ((c : List ℕ) → Q c → All P (f c)) → (columns : List (List ℕ)) → All Q columns → All P (flat_map f columns)
columns_all P Q f h [] a = All-nil P
columns_all P Q f h (c ∷ columns) a = All-append P (f c) (flat_map f columns) (h c (All-head Q c columns a)) (columns_all P Q f h columns (All-tail Q c columns a))

added_all : (P : Cell → Type 0) (cells : List Cell) (x : Cell) (o : Option ℕ) → All P cells → P x → All P (added cells x o)
added_all P cells x (Some k) a h = a
added_all P cells x None a h = All-append P cells (x ∷ []) a (All-cons P x [] h (All-nil P))

all_added_all : (P : Cell → Type 0) (cells more : List Cell) → All P cells → All P more → All P (all_added cells more)
all_added_all P cells [] a b = a
all_added_all P cells (x ∷ more) a b = all_added_all P (added cells x (number_in cells x)) more (added_all P cells x (number_in cells x) a (All-head P x more b)) (All-tail P x more b)

pub cells_fit : (g : Grid) → IsGrid g → All (IsCell g) (cells_of g)
cells_fit g h =
    let P : Cell → Type 0 = λ x. IsCell g x in
    let Q : List ℕ → Type 0 = λ c. IsColumn g.functions c in
    let n = length g.rows in
    let first = columns_all P Q (column_cells g) (λ c k. map_all P (cell_on g c) n n (omega arith) (λ r l. cell_fits g c r h k l)) (columns_of g.functions) (columns_fit g.functions) in
    let rest = flat_all P (row_cells g) n n (omega arith)
    (λ r l. flat_all P (source_cells g r) (sources g r) (sources g r) (omega arith)
    (λ s k. map_all P (λ t. record { row = r; source = s; target = t }) (targets g r) (targets g r) (omega arith) (λ t m. record { row = l; source = k; target = m }))) in
    all_added_all P [] (flat_map (column_cells g) (columns_of g.functions) ++ flat_map (row_cells g) (below n)) (All-nil P)
    (All-append P (flat_map (column_cells g) (columns_of g.functions)) (flat_map (row_cells g) (below n)) first rest)

pub row_inside : (g : Grid) (k : ℕ) → IsGrid g → k < length (cells_of g) → row_of g k < length g.rows
unfolding row_of
row_inside g k h l =
    let P : Cell → Type 0 = λ x. IsCell g x in
    let none : Cell = record { row = 0; source = 0; target = 0 } in
    (All-get_or P (cells_of g) k none l (cells_fit g h)).row
