-- What the rows seen so far say of a column's kind.
use Rattle.std.proofs.Common.{◌≡◌, ◌⊎◌, ◌<◌, ◌+◌, ℕ, arith, inl, inr, below_more, List, get_or, Bool, true, false, Option, Some, None}
use Rattle.fp_order.specs.declared.entry.Entry.{Entry}
use Rattle.fp_order.specs.declared.entry.Entry.TheVariants.{Less, Leq, Unknown}

pub record KindBelow (K : ℕ → ℕ → Option Entry) (decided : List (Option ℕ)) (c row : ℕ) (hole less : Bool) : Type 0 where
  pub fine : (r : ℕ) → r < row → get_or decided r None ≡ None → K c r ≡ Some Unknown → ⊥
  pub hole_yes : hole ≡ true → (r : ℕ) × (r < row) × (get_or decided r None ≡ None) × (K c r ≡ None)
  pub hole_no : hole ≡ false → (r : ℕ) → r < row → get_or decided r None ≡ None → (K c r ≡ Some Less) ⊎ (K c r ≡ Some Leq)
  pub less_yes : less ≡ true → (r : ℕ) × (r < row) × (get_or decided r None ≡ None) × (K c r ≡ Some Less)
  pub less_no : less ≡ false → (r : ℕ) → r < row → get_or decided r None ≡ None → K c r ≡ Some Less → ⊥

pub kind_skip : (K : ℕ → ℕ → Option Entry) (d : List (Option ℕ)) (c row : ℕ) (hole less : Bool) → KindBelow K d c row hole less → (get_or d row None ≡ None → ⊥) → KindBelow K d c (row + 1) hole less
kind_skip K d c row hole less b far = record {
  fine = below_more _ _ b.fine (λ h. absurd (far h));
  hole_yes = λ q. let t = b.hole_yes q in (t.0, omega (arith, t.1), t.2, t.3);
  hole_no = λ q. below_more _ _ (b.hole_no q) (λ h. absurd (far h));
  less_yes = λ q. let t = b.less_yes q in (t.0, omega (arith, t.1), t.2, t.3);
  less_no = λ q. below_more _ _ (b.less_no q) (λ h. absurd (far h));
}

pub kind_hole : (K : ℕ → ℕ → Option Entry) (d : List (Option ℕ)) (c row : ℕ) (hole less : Bool) → KindBelow K d c row hole less → get_or d row None ≡ None → K c row ≡ None → KindBelow K d c (row + 1) true less
kind_hole K d c row hole less b near s = record {
  fine = below_more _ _ b.fine (λ h k. cc);
  hole_yes = λ q. (row, omega arith, near, s);
  hole_no = λ q. cc;
  less_yes = λ q. let t = b.less_yes q in (t.0, omega (arith, t.1), t.2, t.3);
  less_no = λ q. below_more _ _ (b.less_no q) (λ h k. cc);
}

pub kind_less : (K : ℕ → ℕ → Option Entry) (d : List (Option ℕ)) (c row : ℕ) (hole less : Bool) → KindBelow K d c row hole less → get_or d row None ≡ None → K c row ≡ Some Less → KindBelow K d c (row + 1) hole true
kind_less K d c row hole less b near s = record {
  fine = below_more _ _ b.fine (λ h k. cc);
  hole_yes = λ q. let t = b.hole_yes q in (t.0, omega (arith, t.1), t.2, t.3);
  hole_no = λ q. below_more _ _ (b.hole_no q) (λ h. inl s);
  less_yes = λ q. (row, omega arith, near, s);
  less_no = λ q. cc;
}

pub kind_leq : (K : ℕ → ℕ → Option Entry) (d : List (Option ℕ)) (c row : ℕ) (hole less : Bool) → KindBelow K d c row hole less → get_or d row None ≡ None → K c row ≡ Some Leq → KindBelow K d c (row + 1) hole less
kind_leq K d c row hole less b near s = record {
  fine = below_more _ _ b.fine (λ h k. cc);
  hole_yes = λ q. let t = b.hole_yes q in (t.0, omega (arith, t.1), t.2, t.3);
  hole_no = λ q. below_more _ _ (b.hole_no q) (λ h. inr s);
  less_yes = λ q. let t = b.less_yes q in (t.0, omega (arith, t.1), t.2, t.3);
  less_no = λ q. below_more _ _ (b.less_no q) (λ h k. cc);
}
