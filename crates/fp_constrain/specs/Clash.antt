-- Whether a written term can have a type, and at which subterm it can't.
use Rattle.std.specs.Prelude.{◌≡◌, ◌<◌, ◌+◌, ℕ, true, List, [], ◌∷◌, length, slice_index_or, Option, Some, None}
use Rattle.fp_term.specs.Types.{Typ}
use Rattle.fp_term.specs.Variables.{is_among}
use Rattle.fp_term.specs.Signatures.{IsType}
use Rattle.fp_term.specs.declared.signature.Signature.{Signature}
use Rattle.fp_raw.specs.Raws.{RawTm, raw_name, raw_bound, raw_free, raw_constant, raw_app, raw_abs, raw_typed, raw_size}
use Rattle.fp_constrain.specs.Declarations.{Declarations}
use Rattle.fp_constrain.specs.Subterms.{top}
use Rattle.fp_constrain.specs.Rules.{Has}
use Rattle.fp_constrain.specs.Drafts.{Grows, IsKnownType}
use Rattle.fp_constrain.specs.Draws.{typing, types_of, HasFunctions, IsKnownTerm}
use Rattle.fp_unify.specs.Facts.{Solves, AreAbout, AreKnown}
use Rattle.fp_unify.specs.declared.fact.Fact.{Fact}

-- the given variables have their types
abbrev pub Gives : (List ℕ → Typ) → List (List ℕ × Typ) → Type 0
Gives vars [] = Unit {0}
Gives vars (p ∷ given) = (vars p.0 ≡ p.1) × Gives vars given

-- the type is the wanted one, which is a type of the signature
abbrev pub IsWanted : Signature → Option Typ → Typ → Type 0
IsWanted s None t = Unit {0}
IsWanted s (Some w) t = (t ≡ w) × IsType s w

-- types of the free variables and of the subterms by which the constraints of the subterms below the limit hold;
-- what is wanted of the term comes after its last subterm
pub record IsTyping (s : Signature) (g : Declarations) (given : List (List ℕ × Typ)) (want : Option Typ) (limit : ℕ) (raw : RawTm) (vars : List ℕ → Typ) (types : ℕ → Typ) : Type 0 where
  pub has : Has g vars types limit [] 0 raw
  pub gives : 0 < limit → Gives vars given
  pub wanted : raw_size raw < limit → IsWanted s want (types (top 0 raw))

pub record Satisfiable (s : Signature) (g : Declarations) (given : List (List ℕ × Typ)) (want : Option Typ) (limit : ℕ) (raw : RawTm) : Type 0 where
  pub vars : List ℕ → Typ
  pub types : ℕ → Typ
  pub typing : IsTyping s g given want limit raw vars types

-- the constraints of the first k subterms can hold together, and those of one more can't
pub record Clashes (s : Signature) (g : Declarations) (given : List (List ℕ × Typ)) (want : Option Typ) (raw : RawTm) (k : ℕ) : Type 0 where
  pub before : Satisfiable s g given want k raw
  pub never : Satisfiable s g given want (k + 1) raw → ⊥

-- types that meet the equations below the limit
pub record Solvable (limit : ℕ) (facts : List (ℕ × Fact)) : Type 0 where
  pub types : ℕ → Typ
  pub solves : Solves limit types facts

-- the names of the term's variables are among these
abbrev pub Covers : List (List ℕ) → RawTm → Type 0
Covers names (raw_name a at) = is_among names a ≡ true
Covers names (raw_bound n at) = Unit {0}
Covers names (raw_free a t at) = is_among names a ≡ true
Covers names (raw_constant a t at) = Unit {0}
Covers names (raw_app f x at) = Covers names f × Covers names x
Covers names (raw_abs a t x at) = Covers names x
Covers names (raw_typed x t at) = Covers names x

-- those of the given variables are
abbrev pub CoversAll : List (List ℕ) → List (List ℕ × Typ) → Type 0
CoversAll names [] = Unit {0}
CoversAll names (p ∷ given) = (is_among names p.0 ≡ true) × CoversAll names given

-- the names are kept, and those of the term are there
pub record Collects (old : List (List ℕ)) (raw : RawTm) (new : List (List ℕ)) : Type 0 where
  pub kept : (a : List ℕ) → is_among old a ≡ true → is_among new a ≡ true
  pub covers : Covers new raw

-- the names are kept, and those of all given variables are there where those of the ones left are
pub record CollectsAll (old : List (List ℕ)) (all left : List (List ℕ × Typ)) (new : List (List ℕ)) : Type 0 where
  pub kept : (a : List ℕ) → is_among old a ≡ true → is_among new a ≡ true
  pub covers : (names : List (List ℕ)) → ((a : List ℕ) → is_among new a ≡ true → is_among names a ≡ true) → CoversAll names left → CoversAll names all

-- the given types are known
abbrev pub AreKnownGiven : Signature → List (List ℕ) → List (List ℕ × Typ) → Type 0
AreKnownGiven s written [] = Unit {0}
AreKnownGiven s written (p ∷ given) = IsKnownType s written [] p.1 × AreKnownGiven s written given

-- the names of the wanted type are written
abbrev pub IsKnownWant : Signature → List (List ℕ) → Option Typ → Type 0
IsKnownWant s written None = Unit {0}
IsKnownWant s written (Some w) = IsType s w → IsKnownType s written [] w

-- types that are as before below n, and meet the equations and a condition
pub record Further (n : ℕ) (v : ℕ → Typ) (limit : ℕ) (facts : List (ℕ × Fact)) (P : (ℕ → Typ) → Type 0) : Type 0 where
  pub types : ℕ → Typ
  pub agree : (i : ℕ) → i < n → types i ≡ v i
  pub solves : Solves limit types facts
  pub meets : P types

-- equations say that given variables have their types, all but those that are left
pub record Fixes (names : List (List ℕ)) (all left : List (List ℕ × Typ)) (n : ℕ) (old : List (ℕ × Fact)) (m : ℕ) (new : List (ℕ × Fact)) : Type 0 where
  pub grows : Grows n old m new
  pub sound : (limit : ℕ) (v : ℕ → Typ) → 0 < limit → Solves limit v new → Gives (types_of v names) left → Gives (types_of v names) all
  pub complete : (limit : ℕ) (v : ℕ → Typ) → Solves limit v old → (0 < limit → Gives (types_of v names) all) → Further n v limit new (λ w. 0 < limit → Gives (types_of w names) left)
  pub only : (s : Signature) (written : List (List ℕ)) → AreKnownGiven s written all → AreKnown s written old → AreKnownGiven s written left × AreKnown s written new

-- equations say that a type is the wanted one
pub record Wants (s : Signature) (want : Option Typ) (step at n : ℕ) (old : List (ℕ × Fact)) (m : ℕ) (new : List (ℕ × Fact)) : Type 0 where
  pub grows : Grows n old m new
  pub sound : (limit : ℕ) (v : ℕ → Typ) → Solves limit v new → step < limit → IsWanted s want (v at)
  pub complete : (limit : ℕ) (v : ℕ → Typ) → Solves limit v old → (step < limit → IsWanted s want (v at)) → Further n v limit new (λ w. Unit {0})
  pub only : (written : List (List ℕ)) → IsKnownWant s written want → AreKnown s written old → AreKnown s written new

-- the equations have a solution at the one limit, and none at the other
pub record FirstUnsolvable (facts : List (ℕ × Fact)) (low high : ℕ) : Type 0 where
  pub before : Solvable low facts
  pub never : (v : ℕ → Typ) → Solves high v facts → ⊥

-- types meet the equations exactly where those of the numbers that were seen are a typing
pub record Traces (s : Signature) (g : Declarations) (given : List (List ℕ × Typ)) (want : Option Typ) (raw : RawTm) (count : ℕ) (seen : List ℕ) (facts : List (ℕ × Fact)) : Type 0 where
  pub about : AreAbout count facts
  pub counted : length seen ≡ raw_size raw
  pub below : (k : ℕ) → k < length seen → slice_index_or seen k 0 < count
  pub sound : (limit : ℕ) (v : ℕ → Typ) → 0 < limit → Solves limit v facts → (vars : List ℕ → Typ) × IsTyping s g given want limit raw vars (typing v seen)
  pub complete : (limit : ℕ) (vars : List ℕ → Typ) (types : ℕ → Typ) → IsTyping s g given want limit raw vars types →
      (v : ℕ → Typ) × Solves limit v facts × ((k : ℕ) → k < raw_size raw → typing v seen k ≡ types k)
  pub only : (written : List (List ℕ)) → HasFunctions s → AreKnownGiven s written given → IsKnownTerm s written g raw → IsKnownWant s written want → AreKnown s written facts
