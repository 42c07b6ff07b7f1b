-- Each cell has a place of its own when cells stand by row, source and target.
use Rattle.std.proofs.Common.{◌≡◌, ◌<◌, ◌≤◌, ◌+◌, ◌*◌, ℕ, zero, suc, List, [], ◌∷◌, ◌++◌, length, get_or, refl, arith, inl, inr, sym, ◌∙◌, ap, subst}
use Rattle.std.proofs.Math.ListN.{get_or-append}
use Rattle.std.proofs.Math.Seq.{get_or-append_seam}
use Rattle.std.proofs.lemmas.Bool.{cases_lt}
use Rattle.std.proofs.lemmas.Nat.{mul-add-lt}
use Rattle.fp_order.specs.declared.grid.Grid.{Grid}
use Rattle.fp_order.specs.declared.grid.Cell.{Cell}
use Rattle.fp_order.specs.Grid.{sources, targets, IsCell}
use Rattle.fp_order.specs.Numbers.{start, place_of}

-- starts rise
start_le : (g : Grid) (r n : ℕ) → r ≤ n → start g r ≤ start g n
start_le g r zero h = let e : r ≡ 0 = omega arith in subst (λ (x : ℕ). start g x ≤ start g 0) (sym e) (omega arith)
start_le g r (suc n) h = elim (cases_lt r (suc n)) [
  | inl l ↦ omega (arith, start_le g r n (omega arith))
  | inr l ↦ let e : r ≡ suc n = omega arith in subst (λ (x : ℕ). start g x ≤ start g (suc n)) (sym e) (omega arith)
]

-- a place stands before the next row's start
pub place_lt : (g : Grid) (x : Cell) → IsCell g x → place_of g x < start g (suc x.row)
place_lt g x h = omega (arith, mul-add-lt x.source (targets g x.row) x.target (sources g x.row) h.source h.target, mul_swap (sources g x.row) (targets g x.row)) where
  mul_swap : (a b : ℕ) → a * b ≡ b * a
  mul_swap a b = omega arith

pub place_inside : (g : Grid) (x : Cell) → IsCell g x → place_of g x < start g (length g.rows)
place_inside g x h = omega (arith, place_lt g x h, start_le g (suc x.row) (length g.rows) (omega (arith, h.row)))

-- within a row a place has one source and one target
factor_same : (w a b c d : ℕ) → b < w → d < w → a * w + b ≡ c * w + d → a ≡ c
factor_same w zero b zero d l k e = refl
factor_same w zero b (suc c) d l k e = absurd (omega (arith, l, e))
factor_same w (suc a) b zero d l k e = absurd (omega (arith, k, e))
factor_same w (suc a) b (suc c) d l k e = ap (λ (x : ℕ). suc x) (factor_same w a b c d l k (omega (arith, e)))

abbrev made : ℕ → ℕ → ℕ → Cell
made r s t = record { row = r; source = s; target = t }

cell_same : (x y : Cell) → x.row ≡ y.row → x.source ≡ y.source → x.target ≡ y.target → x ≡ y
cell_same x y p q r =
    ap (λ (a : ℕ). made a x.source x.target) p ∙ (ap (λ (a : ℕ). made y.row a x.target) q ∙ ap (λ (a : ℕ). made y.row y.source a) r)

pub place_one : (g : Grid) (x y : Cell) → IsCell g x → IsCell g y → place_of g x ≡ place_of g y → x ≡ y
place_one g x y h k e = elim (cases_lt x.row y.row) [
  | inl l ↦ absurd (omega (arith, e, place_lt g x h, start_le g (suc x.row) y.row (omega arith)))
  | inr l ↦ elim (cases_lt y.row x.row) [
    | inl m ↦ absurd (omega (arith, e, place_lt g y k, start_le g (suc y.row) x.row (omega arith)))
    | inr m ↦
        let row : x.row ≡ y.row = omega arith in
        let t : y.target < targets g x.row = subst (λ (r : ℕ). y.target < targets g r) (sym row) k.target in
        let p : start g x.row + (y.source * targets g x.row + y.target) ≡ place_of g y =
        ap (λ (r : ℕ). start g r + (y.source * targets g r + y.target)) row in
        let q : x.source * targets g x.row + x.target ≡ y.source * targets g x.row + y.target = omega (arith, e, p) in
        let source : x.source ≡ y.source = factor_same (targets g x.row) x.source x.target y.source y.target h.target t q in
        let w : x.source * targets g x.row ≡ y.source * targets g x.row = ap (λ (s : ℕ). s * targets g x.row) source in
        let target : x.target ≡ y.target = omega (arith, q, w) in
        cell_same x y row source target
  ]
]

-- the starts with one more
pub starts_more : (g : Grid) (starts : List ℕ) (row end : ℕ) → length starts ≡ row + 1 → ((r : ℕ) → r ≤ row → get_or starts r 0 ≡ start g r) → end ≡ start g (row + 1) →
    (r : ℕ) → r ≤ row + 1 → get_or (starts ++ end ∷ []) r 0 ≡ start g r
starts_more g starts row end len each last r h = elim (cases_lt r (row + 1)) [
  | inl l ↦ get_or-append starts (end ∷ []) 0 r (omega (arith, len, l)) ∙ each r (omega (arith, l))
  | inr l ↦
      let e : length starts ≡ r = omega (arith, len, l) in
      let s : row + 1 ≡ r = omega arith in
      subst (λ (i : ℕ). get_or (starts ++ end ∷ []) i 0 ≡ start g r) e (get_or-append_seam starts end [] 0 ∙ (last ∙ ap (start g) s))
]
