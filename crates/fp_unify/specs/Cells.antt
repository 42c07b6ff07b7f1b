-- What a table of types says of them.
use Rattle.std.specs.Prelude.{◌≡◌, ◌<◌, ◌+◌, ◌&&◌, ◌==◌, if◌then◌else◌, ℕ, Bool, true, false, List, [], ◌∷◌, length, slice_index_or, Option, Some, None}
use Rattle.std.specs.Str.{bytes_eq}
use Rattle.fp_term.specs.Types.{Typ, variable, applied}
use Rattle.fp_unify.specs.Facts.{types_at, AllBelow}
use Rattle.fp_unify.specs.declared.table.Shape.{Shape}
use Rattle.fp_unify.specs.declared.table.Shape.TheVariants.{Open, Link, Var, Con}

abbrev pub cell : List Shape → ℕ → Shape
cell cells i = slice_index_or cells i Open

-- the types agree with what is known of number i
abbrev pub Meets : (ℕ → Typ) → ℕ → Shape → Type 0
Meets v i Open = Unit {0}
Meets v i (Link j) = v i ≡ v j
Meets v i (Var name) = v i ≡ variable name
Meets v i (Con name args) = v i ≡ applied name (types_at v args)

-- the types agree with the table
pub record Fits (v : ℕ → Typ) (cells : List Shape) : Type 0 where
  pub at : (i : ℕ) → Meets v i (cell cells i)

-- links lead to earlier types, and all types are in the table
abbrev pub IsFine : ℕ → ℕ → Shape → Type 0
IsFine n i Open = Unit {0}
IsFine n i (Link j) = j < i
IsFine n i (Var name) = Unit {0}
IsFine n i (Con name args) = AllBelow n args

pub record AreFine (cells : List Shape) : Type 0 where
  pub at : (i : ℕ) → IsFine (length cells) i (cell cells i)

abbrev pub IsRoot : Shape → Type 0
IsRoot (Link j) = ⊥
IsRoot _ = Unit {0}

abbrev pub IsFormed : Shape → Type 0
IsFormed Open = ⊥
IsFormed (Link j) = ⊥
IsFormed _ = Unit {0}

abbrev pub pairs : List ℕ → List ℕ → List (ℕ × ℕ)
pairs (x ∷ xs) (y ∷ ys) = (x, y) ∷ pairs xs ys
pairs _ _ = []

-- which pairs must be equal where two known forms are, if they can be
abbrev pub needed : Shape → Shape → Option (List (ℕ × ℕ))
needed low Open = Some []
needed (Var a) (Var b) = if bytes_eq a b then Some [] else None
needed (Con a xs) (Con b ys) = if bytes_eq a b && length xs == length ys then Some (pairs xs ys) else None
needed _ _ = None

abbrev pub is_open : Shape → Bool
is_open Open = true
is_open _ = false

-- the types of each pair are equal
abbrev pub AllSame : (ℕ → Typ) → List (ℕ × ℕ) → Type 0
AllSame v [] = Unit {0}
AllSame v (p ∷ ps) = (v p.0 ≡ v p.1) × AllSame v ps

abbrev pub AreInside : ℕ → List (ℕ × ℕ) → Type 0
AreInside n [] = Unit {0}
AreInside n (p ∷ ps) = (p.0 < n) × (p.1 < n) × AreInside n ps

-- how much can still be made equal
abbrev pub weight : Shape → ℕ
weight Open = 1
weight (Link j) = 0
weight (Var name) = 1
weight (Con name args) = length args + 1

abbrev pub weights : List Shape → ℕ
weights [] = 0
weights (s ∷ cells) = weight s + weights cells

-- two tables with what must be equal besides say the same
pub record Turns (old : List Shape) (before : List (ℕ × ℕ)) (new : List Shape) (after : List (ℕ × ℕ)) : Type 0 where
  pub to : (v : ℕ → Typ) → Fits v old → AllSame v before → Fits v new × AllSame v after
  pub back : (v : ℕ → Typ) → Fits v new → AllSame v after → Fits v old × AllSame v before
  pub fine : AreFine new
  pub inside : AreInside (length old) before → AreInside (length new) after
  pub less : weights new + length after < weights old + length before
  pub kept : length new ≡ length old

-- the two types are equal in no types that agree with the table
pub record Apart (cells : List Shape) (left right : ℕ) : Type 0 where
  pub never : (v : ℕ → Typ) → Fits v cells → v left ≡ v right → ⊥

-- the pairs are equal in no types that agree with the table
pub record AllApart (cells : List Shape) (pending : List (ℕ × ℕ)) : Type 0 where
  pub never : (v : ℕ → Typ) → Fits v cells → AllSame v pending → ⊥

-- the new table, with what must be equal besides, says what the old one says with what had to be equal before
pub record Reaches (old : List Shape) (before : List (ℕ × ℕ)) (new : List Shape) (after : List (ℕ × ℕ)) : Type 0 where
  pub to : (v : ℕ → Typ) → Fits v old → AllSame v before → Fits v new × AllSame v after
  pub back : (v : ℕ → Typ) → Fits v new → AllSame v after → Fits v old × AllSame v before
  pub fine : AreFine new
  pub inside : AreInside (length new) after
  pub kept : length new ≡ length old

-- the same of a table in which a type has a form besides
pub record Takes (old : List Shape) (at : ℕ) (form : Shape) (new : List Shape) (after : List (ℕ × ℕ)) : Type 0 where
  pub to : (v : ℕ → Typ) → Fits v old → Meets v at form → Fits v new × AllSame v after
  pub back : (v : ℕ → Typ) → Fits v new → AllSame v after → Fits v old × Meets v at form
  pub fine : AreFine new
  pub inside : AreInside (length new) after
  pub kept : length new ≡ length old

-- the type has this form in no types that agree with the table
pub record Against (cells : List Shape) (at : ℕ) (form : Shape) : Type 0 where
  pub never : (v : ℕ → Typ) → Fits v cells → Meets v at form → ⊥
