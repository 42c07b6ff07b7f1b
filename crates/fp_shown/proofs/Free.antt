-- Shown cells are free of effect.
use Rattle.std.proofs.Common.{◌≡◌, ◌<◌, ◌≤◌, ℕ, zero, suc, List, [], ◌∷◌, length, get_or, refl, arith, inl, inr, sym, ◌∙◌, subst, Option}
use Rattle.std.proofs.lemmas.Bool.{cases_lt}
use Rattle.fp_order.specs.declared.entry.Entry.{Entry}
use Rattle.fp_order.specs.declared.entry.Entry.TheVariants.{Unknown}
use Rattle.fp_order.specs.declared.grid.Grid.{Grid}
use Rattle.fp_order.specs.Grid.{cells_of, columns_of, IsGrid}
use Rattle.fp_order.proofs.Exists.{rows_below}
use Rattle.fp_shown.specs.Effect.{AgreeAt, RowsLeftDecide, ShownIsFree, ClosedHasOneResult}
use Rattle.fp_shown.specs.Fillings.{IsFilling}
use Rattle.fp_shown.specs.Known.{known_at}
use Rattle.fp_shown.specs.Shown.{number_on, row_of, IsShown, IsRowShown}
use Rattle.fp_shown.proofs.ColumnEffect.{same_columns}
use Rattle.fp_shown.proofs.Effect.{ColumnsSame, found_same, left_same}
use Rattle.fp_shown.proofs.Forces.{forces_exists}
use Rattle.fp_shown.proofs.Inside.{inside_grid, placed}
use Rattle.fp_shown.proofs.Longest.{shown_gone}

past_end : (xs : List Entry) (k : ℕ) → length xs ≤ k → get_or xs k Unknown ≡ Unknown
past_end [] k h = refl
past_end (x ∷ xs) zero h = absurd (omega arith)
past_end (x ∷ xs) (suc k) h = past_end xs k (omega arith)

pub shown_row : (g : Grid) (known : List (Option Entry)) (k : ℕ) → IsShown g known k → IsRowShown g known (row_of g k)
unfolding IsShown
shown_row g known k w = w

-- the columns on two fillings that agree on the cells that aren't shown
columns_agree : (g : Grid) → IsGrid g → (known : List (Option Entry)) → length known ≡ length (cells_of g) → (full other : List Entry) → IsFilling known full → IsFilling known other →
    ((k : ℕ) → k < length (cells_of g) → (IsShown g known k → ⊥) → AgreeAt full other k) → ColumnsSame g full other
columns_agree g h known len full other fills others agree =
    let n = length (columns_of g.functions) in
    let rows = length g.rows in
    let inside = inside_grid g known h len in
    let o = forces_exists (known_at (number_on g) known) n (λ r. r < rows) (rows_below rows) in
    same_columns (number_on g) (row_of g) n rows known (λ c r m k. placed g c r h m k) o.0 o.1 full other fills others (λ k left. elim (cases_lt k (length (cells_of g))) [
      | inl near ↦ agree k near (λ w. shown_gone (number_on g) n rows known o.0 inside o.1 (row_of g k) (shown_row g known k w) left)
      | inr far ↦ past_end full k (omega (arith, fills.len, len, far)) ∙ sym (past_end other k (omega (arith, others.len, len, far)))
    ])

pub rows_left_decide : (g : Grid) → IsGrid g → RowsLeftDecide g
rows_left_decide g h known len full other fills others agree =
    let s = columns_agree g h known len full other fills others agree in
    let t = columns_agree g h known len other full others fills (λ k l n. sym (agree k l n)) in
    record {
      found = λ f. (found_same g full other h s t f, found_same g other full h t s f);
      left = λ f b row l none k at. left_same g full other h s f b row l none k at;
    }

pub shown_free : (g : Grid) → IsGrid g → ShownIsFree g
shown_free g h known len cell w full other fills others same =
    rows_left_decide g h known len full other fills others (λ k l n. same k (λ q. n (subst (λ (x : ℕ). IsShown g known x) (sym q) w)))

pub closed_one : (g : Grid) → IsGrid g → ClosedHasOneResult g
closed_one g h known len closed full other fills others =
    rows_left_decide g h known len full other fills others (λ k l n. elim (closed k l) [
      | inl t ↦ fills.agrees k t.0 t.1 ∙ sym (others.agrees k t.0 t.1)
      | inr w ↦ absurd (n w)
    ])
