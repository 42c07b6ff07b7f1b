-- What the types of a table look like once those of which nothing is known have names.
use Rattle.std.specs.Prelude.{◌≡◌, ◌≤◌, ◌==◌, ℕ, true, if◌then◌else◌, List, [], ◌∷◌, Option, Some, None}
use Rattle.fp_term.specs.Types.{Typ, Typs, variable, none, more}
use Rattle.fp_term.specs.Variables.{is_among, type_names, all_type_names}
use Rattle.fp_unify.specs.Facts.{types_at}
use Rattle.fp_unify.specs.Cells.{cell, Fits}
use Rattle.fp_unify.specs.Nodes.{type_nodes, types_nodes, Single}
use Rattle.fp_unify.specs.Candidates.{fresh_before, with_unwritten}
use Rattle.fp_unify.specs.declared.table.Shape.{Shape}
use Rattle.fp_unify.specs.declared.table.Shape.TheVariants.{Open, Var}

-- numbers of types of which nothing is known, with their names
abbrev pub Pairs : Type 0
Pairs = List (ℕ × List ℕ)

abbrev pub name_of : ℕ → Pairs → Option (List ℕ)
name_of i [] = None
name_of i (p ∷ pairs) = if p.0 == i then Some p.1 else name_of i pairs

abbrev pub names_of : Pairs → List (List ℕ)
names_of [] = []
names_of (p ∷ pairs) = p.1 ∷ names_of pairs

-- the types of the numbers are the variables of their names
abbrev pub Agrees : (ℕ → Typ) → Pairs → Type 0
Agrees v [] = Unit {0}
Agrees v (p ∷ pairs) = (v p.0 ≡ variable p.1) × Agrees v pairs

-- nothing is known of the types, and each has its own pair alone
abbrev pub AreOwn : List Shape → Pairs → Pairs → Type 0
AreOwn cells all [] = Unit {0}
AreOwn cells all (p ∷ pairs) = (cell cells p.0 ≡ Open) × (name_of p.0 all ≡ Some p.1) × AreOwn cells all pairs

-- the names given are the first ones that aren't written
pub record IsNamer (cells : List Shape) (written : List (List ℕ)) (next : ℕ) (pairs : Pairs) : Type 0 where
  pub own : AreOwn cells pairs pairs
  pub names : names_of pairs ≡ fresh_before written next

-- the names that the table has are written
pub record AreWritten (cells : List Shape) (written : List (List ℕ)) : Type 0 where
  pub among : (i : ℕ) (a : List ℕ) → cell cells i ≡ Var a → is_among written a ≡ true

-- the type has at most so many nodes
pub record Within (cells : List Shape) (at room : ℕ) : Type 0 where
  pub small : (w : ℕ → Typ) → Single w cells → type_nodes (w at) ≤ room

pub record AreWithin (cells : List Shape) (all : List ℕ) (room : ℕ) : Type 0 where
  pub small : (w : ℕ → Typ) → Single w cells → types_nodes (types_at w all) ≤ room

-- the type is that of the number, with the names in order of first occurrence
pub record Shows (cells : List Shape) (written : List (List ℕ)) (at : ℕ) (old new : Pairs) (t : Typ) : Type 0 where
  pub later : (v : ℕ → Typ) → Agrees v new → Agrees v old
  pub is : (v : ℕ → Typ) → Fits v cells → Agrees v new → t ≡ v at
  pub names : names_of new ≡ with_unwritten written (names_of old) (type_names t)

pub record ShowsAll (cells : List Shape) (written : List (List ℕ)) (all : List ℕ) (old new : Pairs) (ts : Typs) : Type 0 where
  pub later : (v : ℕ → Typ) → Agrees v new → Agrees v old
  pub is : (v : ℕ → Typ) → Fits v cells → Agrees v new → ts ≡ types_at v all
  pub names : names_of new ≡ with_unwritten written (names_of old) (all_type_names ts)

-- the types before the rest
abbrev pub listed : List Typ → Typs → Typs
listed [] rest = rest
listed (t ∷ ts) rest = more t (listed ts rest)

-- the types shown so far, where `left` are still to be shown
pub record Showing (cells : List Shape) (written : List (List ℕ)) (all left : List ℕ) (old new : Pairs) (shown : List Typ) : Type 0 where
  pub later : (v : ℕ → Typ) → Agrees v new → Agrees v old
  pub is : (v : ℕ → Typ) → Fits v cells → Agrees v new → listed shown (types_at v left) ≡ types_at v all
  pub names : names_of new ≡ with_unwritten written (names_of old) (all_type_names (listed shown none))
