-- Equations for written terms.
use Rattle.std.specs.Prelude.{◌≡◌, ◌≤◌, ◌<◌, ◌+◌, ℕ, length, slice_index_or, if◌then◌else◌, List, [], ◌∷◌, Option, Some, None}
use Rattle.std.specs.Str.{bytes_eq}
use Rattle.fp_term.specs.Names.{function}
use Rattle.fp_term.specs.Types.{Typ}
use Rattle.fp_term.specs.Signatures.{arity_of}
use Rattle.fp_term.specs.declared.signature.Signature.{Signature}
use Rattle.fp_constrain.specs.Declarations.{Declarations}
use Rattle.fp_raw.specs.Raws.{RawTm, raw_name, raw_bound, raw_free, raw_constant, raw_app, raw_abs, raw_typed, raw_size}
use Rattle.fp_constrain.specs.Subterms.{top, plain, plain_option}
use Rattle.fp_constrain.specs.Rules.{Scope, is_named, IsWritten, Has}
use Rattle.fp_unify.specs.Facts.{Solves, AreKnown}
use Rattle.fp_constrain.specs.Drafts.{Extended, Grows, IsKnownType, IsKnownOption, IsKnownDeclared}
use Rattle.fp_unify.specs.declared.fact.Fact.{Fact}

-- the number of the first of the names that is this one, or one past the last
abbrev pub number_among : List (List ℕ) → List ℕ → ℕ
number_among [] a = 0
number_among (b ∷ names) a = if bytes_eq b a then 0 else number_among names a + 1

-- each variable has the type of the number of its name
abbrev pub types_of : (ℕ → Typ) → List (List ℕ) → List ℕ → Typ
types_of v names a = v (number_among names a)

-- the bound variables around a term with the numbers of their types
abbrev pub Binders : Type 0
Binders = List (Option (List ℕ) × ℕ)

abbrev pub scope_types : (ℕ → Typ) → Binders → Scope
scope_types v [] = []
scope_types v (b ∷ binders) = (b.0, v b.1) ∷ scope_types v binders

abbrev pub BindersBelow : ℕ → Binders → Type 0
BindersBelow n [] = Unit {0}
BindersBelow n (b ∷ binders) = (b.1 < n) × BindersBelow n binders

abbrev pub innermost_number : List ℕ → Binders → Option ℕ
innermost_number a [] = None
innermost_number a (b ∷ binders) = if is_named b.0 a then Some b.1 else innermost_number a binders

-- the type of each subterm, where `seen` has the numbers of their types
abbrev pub typing : (ℕ → Typ) → List ℕ → ℕ → Typ
typing v seen k = v (slice_index_or seen k 0)

-- the numbers of the types of the term's subterms were put at the end
pub record Sees (raw : RawTm) (step m : ℕ) (before after : List ℕ) (at : ℕ) : Type 0 where
  pub counted : length after ≡ step + raw_size raw
  pub kept : (k : ℕ) → k < step → slice_index_or after k 0 ≡ slice_index_or before k 0
  pub below : (k : ℕ) → step ≤ k → k < step + raw_size raw → slice_index_or after k 0 < m
  pub root : slice_index_or after (top step raw) 0 ≡ at

-- types that are as before below n, meet the equations, and are these ones at the numbers of some subterms
pub record Extends (n : ℕ) (v : ℕ → Typ) (limit : ℕ) (facts : List (ℕ × Fact)) (seen : List ℕ) (from to : ℕ) (chosen : ℕ → Typ) : Type 0 where
  pub types : ℕ → Typ
  pub agree : (i : ℕ) → i < n → types i ≡ v i
  pub solves : Solves limit types facts
  pub here : (k : ℕ) → from ≤ k → k < to → types (slice_index_or seen k 0) ≡ chosen k

-- the types that a term writes, and those of its constants, are known
abbrev pub IsKnownTerm : Signature → List (List ℕ) → Declarations → RawTm → Type 0
IsKnownTerm s written g (raw_name a at) = IsKnownDeclared s written (g a)
IsKnownTerm s written g (raw_bound k at) = Unit {0}
IsKnownTerm s written g (raw_free a t at) = IsKnownType s written [] (plain t)
IsKnownTerm s written g (raw_constant a t at) = IsKnownDeclared s written (g a) × IsKnownOption s written (plain_option t)
IsKnownTerm s written g (raw_app f x at) = IsKnownTerm s written g f × IsKnownTerm s written g x
IsKnownTerm s written g (raw_abs a t x at) = IsKnownOption s written (plain_option t) × IsKnownTerm s written g x
IsKnownTerm s written g (raw_typed x t at) = IsKnownTerm s written g x × IsKnownType s written [] (plain t)

-- functions have two arguments
abbrev pub HasFunctions : Signature → Type 0
HasFunctions s = arity_of function s.types ≡ Some 2

-- types meet the equations exactly where they come of types of subterms by which the term's typing rules hold
pub record Draws (g : Declarations) (names : List (List ℕ)) (binders : Binders) (raw : RawTm) (step n : ℕ) (old : List (ℕ × Fact)) (m : ℕ) (new : List (ℕ × Fact)) (before after : List ℕ) (at : ℕ) : Type 0 where
  pub grows : Grows n old m new
  pub inside : at < m
  pub sees : Sees raw step m before after at
  pub sound : (limit : ℕ) (v : ℕ → Typ) → 0 < limit → Solves limit v new → Has g (types_of v names) (typing v after) limit (scope_types v binders) step raw
  pub complete : (limit : ℕ) (v types : ℕ → Typ) → Solves limit v old → Has g (types_of v names) types limit (scope_types v binders) step raw → Extends n v limit new after step (step + raw_size raw) types
  pub only : (s : Signature) (written : List (List ℕ)) → HasFunctions s → IsKnownTerm s written g raw → AreKnown s written old → AreKnown s written new

-- the type of a bound variable is any, or the written one
pub record Binds (w : Option Typ) (n : ℕ) (old : List (ℕ × Fact)) (m : ℕ) (new : List (ℕ × Fact)) (at : ℕ) : Type 0 where
  pub grows : Grows n old m new
  pub inside : at < m
  pub sound : (limit : ℕ) (v : ℕ → Typ) → 0 < limit → Solves limit v new → IsWritten w (v at)
  pub complete : (limit : ℕ) (v : ℕ → Typ) (t : Typ) → Solves limit v old → IsWritten w t → Extended n v limit new at t
  pub only : (s : Signature) (written : List (List ℕ)) → IsKnownOption s written w → AreKnown s written old → AreKnown s written new
