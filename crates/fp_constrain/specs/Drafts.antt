-- Equations for types that are written or declared.
use Rattle.std.specs.Prelude.{◌≡◌, ◌<◌, ◌≤◌, ◌+◌, ℕ, length, true, if◌then◌else◌, List, [], ◌∷◌, ◌++◌, Option, Some, None}
use Rattle.std.specs.Str.{bytes_eq}
use Rattle.fp_term.specs.Types.{Typ, Typs, variable, applied, none, more, count, retyped, all_retyped}
use Rattle.fp_term.specs.Variables.{is_among}
use Rattle.fp_term.specs.Signatures.{arity_of, IsType}
use Rattle.fp_term.specs.declared.signature.Signature.{Signature}
use Rattle.fp_constrain.specs.Declarations.{Declared, exactly, instances, IsDeclared}
use Rattle.fp_unify.specs.Facts.{Solves, AreAbout, AllBelow, types_at, AreKnown}
use Rattle.fp_unify.specs.declared.fact.Fact.{Fact}
use Rattle.fp_unify.specs.declared.fact.Fact.TheVariants.{Same}

-- the number of the first pair for the name
abbrev pub found_number : List ℕ → List (List ℕ × ℕ) → Option ℕ
found_number a [] = None
found_number a (p ∷ table) = if bytes_eq p.0 a then Some p.1 else found_number a table

-- the names with the types of their numbers
abbrev pub table_types : (ℕ → Typ) → List (List ℕ × ℕ) → List (List ℕ × Typ)
table_types v [] = []
table_types v (p ∷ table) = (p.0, v p.1) ∷ table_types v table

abbrev pub TableBelow : ℕ → List (List ℕ × ℕ) → Type 0
TableBelow n [] = Unit {0}
TableBelow n (p ∷ table) = (p.1 < n) × TableBelow n table

-- the type's constructors are of the signature, and its names are of the table or written
abbrev mutual
  pub IsKnownType : Signature → List (List ℕ) → List (List ℕ × ℕ) → Typ → Type 0
  IsKnownType s written table (variable a) = found_number a table ≡ None → is_among written a ≡ true
  IsKnownType s written table (applied a ts) = (arity_of a s.types ≡ Some (count ts)) × AreKnownTypes s written table ts

  pub AreKnownTypes : Signature → List (List ℕ) → List (List ℕ × ℕ) → Typs → Type 0
  AreKnownTypes s written table none = Unit {0}
  AreKnownTypes s written table (more t ts) = IsKnownType s written table t × AreKnownTypes s written table ts

abbrev pub IsKnownOption : Signature → List (List ℕ) → Option Typ → Type 0
IsKnownOption s written None = Unit {0}
IsKnownOption s written (Some t) = IsKnownType s written [] t

-- so are the types of constants
abbrev pub IsKnownDeclared : Signature → List (List ℕ) → Option Declared → Type 0
IsKnownDeclared s written None = Unit {0}
IsKnownDeclared s written (Some (exactly t)) = IsKnownType s written [] t
IsKnownDeclared s written (Some (instances t)) = IsType s t

-- types that are as before below n, meet the equations, and have this one at a number
pub record Extended (n : ℕ) (v : ℕ → Typ) (limit : ℕ) (facts : List (ℕ × Fact)) (at : ℕ) (t : Typ) : Type 0 where
  pub types : ℕ → Typ
  pub agree : (i : ℕ) → i < n → types i ≡ v i
  pub solves : Solves limit types facts
  pub here : types at ≡ t

-- equations and numbers were added
pub record Grows (n : ℕ) (old : List (ℕ × Fact)) (m : ℕ) (new : List (ℕ × Fact)) : Type 0 where
  pub later : n ≤ m
  pub keeps : (limit : ℕ) (v : ℕ → Typ) → Solves limit v new → Solves limit v old
  pub about : AreAbout m new

-- the type at the number is the written one, with the types of the table in place of its names
pub record Lays (step : ℕ) (table : List (List ℕ × ℕ)) (ty : Typ) (n : ℕ) (old : List (ℕ × Fact)) (m : ℕ) (new : List (ℕ × Fact)) (at : ℕ) : Type 0 where
  pub grows : Grows n old m new
  pub inside : at < m
  pub sound : (limit : ℕ) (v : ℕ → Typ) → step < limit → Solves limit v new → v at ≡ retyped (table_types v table) ty
  pub complete : (limit : ℕ) (v : ℕ → Typ) → Solves limit v old → Extended n v limit new at (retyped (table_types v table) ty)
  pub only : (s : Signature) (written : List (List ℕ)) → IsKnownType s written table ty → AreKnown s written old → AreKnown s written new

pub record ExtendedAll (n : ℕ) (v : ℕ → Typ) (limit : ℕ) (facts : List (ℕ × Fact)) (all : List ℕ) (ts : Typs) : Type 0 where
  pub types : ℕ → Typ
  pub agree : (i : ℕ) → i < n → types i ≡ v i
  pub solves : Solves limit types facts
  pub here : types_at types all ≡ ts

-- the same of several types, whose numbers are put at the end
pub record LaysAll (step : ℕ) (table : List (List ℕ × ℕ)) (tys : Typs) (n : ℕ) (old : List (ℕ × Fact)) (m : ℕ) (new : List (ℕ × Fact)) (before after : List ℕ) : Type 0 where
  pub more : List ℕ
  pub put : after ≡ before ++ more
  pub counted : length more ≡ count tys
  pub grows : Grows n old m new
  pub inside : AllBelow m more
  pub sound : (limit : ℕ) (v : ℕ → Typ) → step < limit → Solves limit v new → types_at v more ≡ all_retyped (table_types v table) tys
  pub complete : (limit : ℕ) (v : ℕ → Typ) → Solves limit v old → ExtendedAll n v limit new more (all_retyped (table_types v table) tys)
  pub only : (s : Signature) (written : List (List ℕ)) → AreKnownTypes s written table tys → AreKnown s written old → AreKnown s written new

-- the names with numbers from n on
abbrev pub numbered : ℕ → List (List ℕ) → List (List ℕ × ℕ)
numbered n [] = []
numbered n (a ∷ names) = (a, n) ∷ numbered (n + 1) names

-- the same where the type at the number matters only if the rule of the step counts
pub record ExtendedIf (step n : ℕ) (v : ℕ → Typ) (limit : ℕ) (facts : List (ℕ × Fact)) (at : ℕ) (t : Typ) : Type 0 where
  pub types : ℕ → Typ
  pub agree : (i : ℕ) → i < n → types i ≡ v i
  pub solves : Solves limit types facts
  pub here : step < limit → types at ≡ t

-- the type at the number of a subterm is any that meets P, where the rule of the subterm counts; where Q holds the equations are known
pub record Leaf (P : (ℕ → Typ) → Typ → Type 0) (Q : Signature → List (List ℕ) → Type 0) (step n : ℕ) (old : List (ℕ × Fact)) (m : ℕ) (new : List (ℕ × Fact)) (at : ℕ) : Type 0 where
  pub grows : Grows n old m new
  pub inside : at < m
  pub sound : (limit : ℕ) (v : ℕ → Typ) → 0 < limit → Solves limit v new → step < limit → P v (v at)
  pub complete : (limit : ℕ) (v : ℕ → Typ) (t : Typ) → Solves limit v old → (step < limit → P v t) → Extended n v limit new at t
  pub only : (s : Signature) (written : List (List ℕ)) → Q s written → AreKnown s written old → AreKnown s written new

-- a written type was laid, and the type at a number is said to be the same
pub record WithWritten (step at : ℕ) (ty : Typ) (n : ℕ) (old : List (ℕ × Fact)) (m : ℕ) (new : List (ℕ × Fact)) (node : ℕ) : Type 0 where
  pub middle : List (ℕ × Fact)
  pub lays : Lays 0 [] ty n old m middle node
  pub added : new ≡ middle ++ (step, Same at node) ∷ []

-- a further type as a constant has it; without a declaration nothing was added
abbrev pub Finds : Option Declared → ℕ → ℕ → List (ℕ × Fact) → ℕ → List (ℕ × Fact) → Option ℕ → Type 0
Finds d step n old m new None = (d ≡ None) × (m ≡ n) × (new ≡ old)
Finds d step n old m new (Some at) = (s : Declared) × (d ≡ Some s) × Leaf (λ v t. IsDeclared s t) (λ g written. IsKnownDeclared g written (Some s)) step n old m new at
