-- What a table says once equations were added.
use Rattle.std.specs.Prelude.{◌≡◌, ℕ, List, length}
use Rattle.fp_term.specs.Types.{Typ}
use Rattle.fp_unify.specs.Facts.{Holds, Solves, AreAbout}
use Rattle.fp_unify.specs.Cells.{cell, Fits, AreFine, AllSame, AreInside}
use Rattle.fp_unify.specs.Settled.{Determines}
use Rattle.fp_unify.specs.declared.fact.Fact.{Fact}
use Rattle.fp_unify.specs.declared.table.Shape.{Shape}
use Rattle.fp_unify.specs.declared.table.Shape.TheVariants.{Open}

-- the new table, with what must be equal besides, says what the old one says, and the equation
pub record Places (old : List Shape) (fact : Fact) (new : List Shape) (after : List (ℕ × ℕ)) : Type 0 where
  pub to : (v : ℕ → Typ) → Fits v old → Holds v fact → Fits v new × AllSame v after
  pub back : (v : ℕ → Typ) → Fits v new → AllSame v after → Fits v old × Holds v fact
  pub fine : AreFine new
  pub inside : AreInside (length new) after
  pub kept : length new ≡ length old

pub record Adds (old : List Shape) (fact : Fact) (new : List Shape) : Type 0 where
  pub to : (v : ℕ → Typ) → Fits v old → Holds v fact → Fits v new
  pub back : (v : ℕ → Typ) → Fits v new → Fits v old × Holds v fact
  pub fine : AreFine new
  pub kept : length new ≡ length old

-- the equation holds for no types that agree with the table
pub record Denies (cells : List Shape) (fact : Fact) : Type 0 where
  pub never : (v : ℕ → Typ) → Fits v cells → Holds v fact → ⊥

pub record AddsAll (limit : ℕ) (old : List Shape) (facts : List (ℕ × Fact)) (new : List Shape) : Type 0 where
  pub to : (v : ℕ → Typ) → Fits v old → Solves limit v facts → Fits v new
  pub back : (v : ℕ → Typ) → Fits v new → Fits v old × Solves limit v facts
  pub fine : AreFine new
  pub kept : length new ≡ length old

pub record DeniesAll (limit : ℕ) (cells : List Shape) (facts : List (ℕ × Fact)) : Type 0 where
  pub never : (v : ℕ → Typ) → Fits v cells → Solves limit v facts → ⊥

-- some of the equations are added, and the others are left
pub record AddsSome (limit : ℕ) (old : List Shape) (facts : List (ℕ × Fact)) (new : List Shape) (left : List (ℕ × Fact)) : Type 0 where
  pub to : (v : ℕ → Typ) → Fits v old → Solves limit v facts → Fits v new × Solves limit v left
  pub back : (v : ℕ → Typ) → Fits v new → Solves limit v left → Fits v old × Solves limit v facts
  pub fine : AreFine new
  pub kept : length new ≡ length old
  pub about : AreAbout (length new) left

pub record AllOpen (n : ℕ) (cells : List Shape) : Type 0 where
  pub counted : length cells ≡ n
  pub unknown : (i : ℕ) → cell cells i ≡ Open

-- the table says what the equations say, and leaves nothing but the choice of the types of which nothing is known
pub record IsSolution (limit : ℕ) (facts : List (ℕ × Fact)) (n : ℕ) (cells : List Shape) : Type 0 where
  pub to : (v : ℕ → Typ) → Solves limit v facts → Fits v cells
  pub back : (v : ℕ → Typ) → Fits v cells → Solves limit v facts
  pub determines : Determines cells
  pub fine : AreFine cells
  pub counted : length cells ≡ n
