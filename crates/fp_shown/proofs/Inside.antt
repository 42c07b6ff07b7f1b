-- The cells of columns, and what the loop over sure columns ends with.
use Rattle.std.proofs.Common.{◌≡◌, ◌<◌, ◌+◌, ◌*◌, ◌∙◌, ℕ, List, [], map, length, get_or, arith, ap, refl, sym, subst, append-nil, Option, Some, None, MatchOption}
use Rattle.std.proofs.lemmas.List.Elements.{All-get_or}
use Rattle.fp_order.specs.declared.entry.Entry.{Entry}
use Rattle.fp_order.specs.declared.grid.Grid.{Grid}
use Rattle.fp_order.specs.declared.grid.Cell.{Cell}
use Rattle.std.specs.List.{flat_map}
use Rattle.fp_order.specs.Numbers.{number_of}
use Rattle.fp_shown.proofs.Flat.{below_at, below_map_len, flat_len, flat_at}
use Rattle.fp_order.specs.Grid.{below, caller, callee, columns_of, cell_on, cells_of, IsGrid, IsCell, IsColumn}
use Rattle.fp_order.specs.Greedy.{IsLeft}
use Rattle.fp_order.proofs.CutLists.{columns_fit}
use Rattle.fp_order.proofs.Table.{number_inside, number_holds}
use Rattle.fp_shown.specs.Known.{known_at, IsStuck}
use Rattle.fp_shown.specs.Fillings.{IsForced, IsShownRow, TellsShown}
use Rattle.fp_shown.specs.Shown.{number_on, row_of}
use Rattle.fp_shown.proofs.Forces.{Forces, After, IsForcing, forcing_end}
use Rattle.fp_shown.proofs.Longest.{IsInside, forces_forced, gone_shown, shown_gone}

pub column_fit : (g : Grid) (c : ℕ) → c < length (columns_of g.functions) → IsColumn g.functions (get_or (columns_of g.functions) c [])
column_fit g c l = let P : List ℕ → Type 0 = λ x. IsColumn g.functions x in All-get_or P (columns_of g.functions) c [] l (columns_fit g.functions)

pub cell_fits : (g : Grid) (column : List ℕ) (r : ℕ) → IsGrid g → IsColumn g.functions column → r < length g.rows → IsCell g (cell_on g column r)
cell_fits g column r h k l = record { row = l; source = k.below (caller g r) (h.callers r l); target = k.below (callee g r) (h.callees r l) }

pub on_cell : (g : Grid) (c r : ℕ) → IsGrid g → c < length (columns_of g.functions) → r < length g.rows → IsCell g (cell_on g (get_or (columns_of g.functions) c []) r)
on_cell g c r h l k = cell_fits g (get_or (columns_of g.functions) c []) r h (column_fit g c l) k

pub number_on_inside : (g : Grid) (c r : ℕ) → IsGrid g → c < length (columns_of g.functions) → r < length g.rows → number_on g c r < length (cells_of g)
unfolding number_on
number_on_inside g c r h l k = number_inside g (cell_on g (get_or (columns_of g.functions) c []) r) (on_cell g c r h l k)

pub inside_grid : (g : Grid) (known : List (Option Entry)) → IsGrid g → length known ≡ length (cells_of g) → IsInside (number_on g) (length (columns_of g.functions)) (λ r. r < length g.rows) known
inside_grid g known h l c r m k = omega (arith, l, number_on_inside g c r h m k)

pub inside_table : (g : Grid) (n rows : ℕ) (known : List (Option Entry)) → n ≡ length (columns_of g.functions) → rows ≡ length g.rows → IsGrid g → length known ≡ length (cells_of g) →
    IsInside (number_on g) n (λ r. r < rows) known
inside_table g n rows known s t h l c r m k = omega (arith, l, number_on_inside g c r h (omega (arith, m, s)) (omega (arith, k, t)))

after_left : (K : ℕ → ℕ → Option Entry) (n rows : ℕ) (columns : List ℕ) (decided : List (Option ℕ)) → IsForcing K n rows columns decided → (r : ℕ) → After K columns (λ x. x < rows) r → IsLeft decided r
after_left K n rows columns decided g r h = g.from [] r (let P : List ℕ → Type 0 = λ x. After K x (λ y. y < rows) r in subst P (sym (append-nil columns)) h)

left_after : (K : ℕ → ℕ → Option Entry) (n rows : ℕ) (columns : List ℕ) (decided : List (Option ℕ)) → IsForcing K n rows columns decided → (r : ℕ) → IsLeft decided r → After K columns (λ x. x < rows) r
left_after K n rows columns decided g r h = let P : List ℕ → Type 0 = λ x. After K x (λ y. y < rows) r in subst P (append-nil columns) (g.leaves [] r h)

pub force_end : (at : ℕ → ℕ → ℕ) (n rows : ℕ) (known : List (Option Entry)) (columns : List ℕ) (decided : List (Option ℕ)) → IsInside at n (λ r. r < rows) known →
    IsForcing (known_at at known) n rows columns decided → IsStuck (known_at at known) n (IsLeft decided) → IsForced at n rows known columns × TellsShown at n rows known decided
force_end at n rows known columns decided in_list g stuck = (forces_forced at n rows known columns in_list f, tells) where
  f : Forces (known_at at known) n columns (λ r. r < rows)
  f = forcing_end (known_at at known) n rows columns decided g stuck

  tell : (r : ℕ) → r < rows → (x : Option ℕ) → get_or decided r None ≡ x → MatchOption x (IsShownRow at n rows known r → ⊥) (λ _. IsShownRow at n rows known r)
  tell r l None s = λ w. shown_gone at n rows known columns in_list f r w (left_after (known_at at known) n rows columns decided g r (omega (arith, g.len), s))
  tell r l (Some i) s = gone_shown at n rows known columns in_list f r l (λ h. let u = (after_left (known_at at known) n rows columns decided g r h).1 in cc)

  tells : TellsShown at n rows known decided
  tells r l = tell r l (get_or decided r None) refl

-- the numbers column by column, read at a column and a row
pub numbers_told : (g : Grid) (numbers : List ℕ) → numbers ≡ flat_map (λ column. map (λ r. number_of g (cell_on g column r)) (below (length g.rows))) (columns_of g.functions) →
    (n rows : ℕ) → n ≡ length (columns_of g.functions) → rows ≡ length g.rows → (c r : ℕ) → c < n → r < rows → get_or numbers (c * rows + r) 0 ≡ number_on g c r
unfolding number_on
numbers_told g numbers s n rows t h c r l k =
    let f : List ℕ → List ℕ = λ column. map (λ r. number_of g (cell_on g column r)) (below (length g.rows)) in
    let at : get_or (flat_map f (columns_of g.functions)) (c * length g.rows + r) 0 ≡ get_or (f (get_or (columns_of g.functions) c [])) r 0 =
    flat_at f (length g.rows) (λ x. below_map_len (λ r. number_of g (cell_on g x r)) (length g.rows)) (columns_of g.functions) c r (omega (arith, l, t)) (omega (arith, k, h)) in
    rw (s, h) (at ∙ below_at (λ r. number_of g (cell_on g (get_or (columns_of g.functions) c []) r)) (length g.rows) r (omega (arith, k, h)))

pub numbers_long : (g : Grid) (numbers : List ℕ) → numbers ≡ flat_map (λ column. map (λ r. number_of g (cell_on g column r)) (below (length g.rows))) (columns_of g.functions) →
    (n rows : ℕ) → n ≡ length (columns_of g.functions) → rows ≡ length g.rows → length numbers ≡ n * rows
numbers_long g numbers s n rows t h =
    let f : List ℕ → List ℕ = λ column. map (λ r. number_of g (cell_on g column r)) (below (length g.rows)) in
    let len : length (flat_map f (columns_of g.functions)) ≡ length (columns_of g.functions) * length g.rows =
    flat_len f (length g.rows) (λ x. below_map_len (λ r. number_of g (cell_on g x r)) (length g.rows)) (columns_of g.functions) in
    rw (s, t, h) len

-- the row of the cell that a column has on a row is that row
pub row_of_number : (g : Grid) (x : Cell) → IsCell g x → row_of g (number_of g x) ≡ x.row
unfolding row_of
row_of_number g x h = let none : Cell = record { row = 0; source = 0; target = 0 } in ap (λ (y : Cell). y.row) (number_holds g x h none)

pub placed : (g : Grid) (c r : ℕ) → IsGrid g → c < length (columns_of g.functions) → r < length g.rows → row_of g (number_on g c r) ≡ r
unfolding number_on
placed g c r h l k = row_of_number g (cell_on g (get_or (columns_of g.functions) c []) r) (on_cell g c r h l k)
