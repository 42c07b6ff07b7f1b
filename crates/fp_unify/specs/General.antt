-- Most general types.
use Rattle.std.specs.Prelude.{◌≡◌, ◌<◌, ℕ, true, false, List, None}
use Rattle.fp_term.specs.Types.{Typ, variable, found_type, retyped}
use Rattle.fp_term.specs.Variables.{is_among}
use Rattle.fp_unify.specs.Facts.{Solves}
use Rattle.fp_unify.specs.Cells.{cell, Fits}
use Rattle.fp_unify.specs.Naming.{AreWritten}
use Rattle.fp_unify.specs.Solved.{IsSolution}
use Rattle.fp_unify.specs.declared.fact.Fact.{Fact}
use Rattle.fp_unify.specs.declared.table.Shape.{Shape}
use Rattle.fp_unify.specs.declared.table.Shape.TheVariants.{Open}

-- names for the types of which nothing is known: no two alike, and none that is written
pub record Naming (cells : List Shape) (written : List (List ℕ)) (names : ℕ → List ℕ) : Type 0 where
  pub apart : (i j : ℕ) → cell cells i ≡ Open → cell cells j ≡ Open → names i ≡ names j → i ≡ j
  pub unwritten : (i : ℕ) → cell cells i ≡ Open → is_among written (names i) ≡ false

-- the types v are the types w with other types in place of names that aren't written
pub record Instance (written : List (List ℕ)) (n : ℕ) (w v : ℕ → Typ) : Type 0 where
  pub pairs : List (List ℕ × Typ)
  pub kept : (a : List ℕ) → is_among written a ≡ true → found_type a pairs ≡ None
  pub is : (i : ℕ) → i < n → retyped pairs (w i) ≡ v i

-- a solution of which each solution is an instance
pub record IsPrincipal (written : List (List ℕ)) (limit : ℕ) (facts : List (ℕ × Fact)) (n : ℕ) (types : ℕ → Typ) : Type 0 where
  pub solves : Solves limit types facts
  pub general : (v : ℕ → Typ) → Solves limit v facts → Instance written n types v

-- however the types of which nothing is known are named, the solution with these names is most general
pub record General (limit : ℕ) (facts : List (ℕ × Fact)) (n : ℕ) (cells : List Shape) : Type 0 where
  pub principal : (written : List (List ℕ)) (names : ℕ → List ℕ) → AreWritten cells written → Naming cells written names →
      (types : ℕ → Typ) → Fits types cells → ((i : ℕ) → cell cells i ≡ Open → types i ≡ variable (names i)) → IsPrincipal written limit facts n types

-- the table says what the equations say, and holds their most general solution
pub record IsBest (limit : ℕ) (facts : List (ℕ × Fact)) (n : ℕ) (cells : List Shape) : Type 0 where
  pub solution : IsSolution limit facts n cells
  pub general : General limit facts n cells
