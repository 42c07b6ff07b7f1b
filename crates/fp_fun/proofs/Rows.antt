-- Rows whose functions are so many are those of a grid.
use Rattle.std.proofs.Common.{◌≡◌, ◌<◌, ◌^◌, ℕ, zero, suc, List, [], ◌∷◌, ◌++◌, length, arith}
use Rattle.std.specs.Prelude.{Result, Ok, Err, OnOk, slice_index_or}
use Rattle.fp_order.specs.declared.grid.Grid.{Grid}
use Rattle.fp_order.specs.Grid.{IsGrid}
use Rattle.fp_fun.specs.Grids.{AreRowsBelow}

one_more : (count : ℕ) (rows : List (ℕ × ℕ)) (a b : ℕ) → AreRowsBelow count rows → a < count → b < count → AreRowsBelow count (rows ++ (a, b) ∷ [])
one_more count [] a b h k l = (k, l, tt)
one_more count (r ∷ rows) a b h k l = (h.0, h.1, one_more count rows a b h.2 k l)

pub pushed : {A E : Type 0} (r : Result A E) (count : ℕ) (old new : List (ℕ × ℕ)) (a b : ℕ) → OnOk r (new ≡ old ++ (a, b) ∷ []) → AreRowsBelow count old → a < count → b < count → OnOk r (AreRowsBelow count new)
pushed (Ok u) count old new a b e h k l = rw e (one_more count old a b h k l)
pushed (Err f) count old new a b e h k l = tt

caller_below : (count : ℕ) (rows : List (ℕ × ℕ)) (r : ℕ) → AreRowsBelow count rows → r < length rows → (slice_index_or rows r (0, 0)).0 < count
caller_below count [] r h k = absurd (omega (arith, k))
caller_below count (row ∷ rows) zero h k = h.0
caller_below count (row ∷ rows) (suc r) h k = caller_below count rows r h.2 (omega (arith, k))

callee_below : (count : ℕ) (rows : List (ℕ × ℕ)) (r : ℕ) → AreRowsBelow count rows → r < length rows → (slice_index_or rows r (0, 0)).1 < count
callee_below count [] r h k = absurd (omega (arith, k))
callee_below count (row ∷ rows) zero h k = h.1
callee_below count (row ∷ rows) (suc r) h k = callee_below count rows r h.2 (omega (arith, k))

pub is_grid : (g : Grid) → AreRowsBelow (length g.functions) g.rows → length g.rows < 2 ^ 32 → IsGrid g
is_grid g h k = record {
  callers = λ r e. caller_below (length g.functions) g.rows r h e;
  callees = λ r e. callee_below (length g.functions) g.rows r h e;
  few = k;
}
