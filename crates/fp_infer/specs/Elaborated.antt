-- The term that a written term stands for.
use Rattle.std.specs.Prelude.{◌≡◌, ◌<◌, ◌≤◌, ◌+◌, ℕ, List, [], ◌∷◌, ◌++◌, length, slice_index_or, Option, Some, None, Result, Ok, Err}
use Rattle.fp_term.specs.Types.{Typ, found_type}
use Rattle.fp_term.specs.Terms.{Tm}
use Rattle.fp_term.specs.Variables.{type_names_in}
use Rattle.fp_term.specs.Typing.{type_under}
use Rattle.fp_term.specs.Signatures.{IsType, IsWellTyped}
use Rattle.fp_term.specs.declared.signature.Signature.{Signature}
use Rattle.fp_raw.specs.Raws.{RawTm, raw_size}
use Rattle.fp_constrain.specs.Declarations.{Declarations, declarations}
use Rattle.fp_constrain.specs.Subterms.{top}
use Rattle.fp_constrain.specs.Rules.{IsWritten}
use Rattle.fp_constrain.specs.Clash.{IsTyping, Clashes}
use Rattle.fp_constrain.specs.Draws.{HasFunctions}
use Rattle.fp_infer.specs.Names.{wrong_in, earliest, written_names}
use Rattle.fp_infer.specs.Built.{built, place_of}
use Rattle.fp_unify.specs.Nodes.{type_nodes, Single}
use Rattle.fp_unify.specs.General.{Instance}
use Rattle.fp_unify.specs.Naming.{Within}
use Rattle.fp_unify.specs.Candidates.{fresh_before, with_unwritten}
use Rattle.fp_unify.specs.declared.table.Shape.{Shape}
use Rattle.fp_infer.specs.declared.fault.InferFault.{InferFault}
use Rattle.fp_infer.specs.declared.fault.InferFault.TheVariants.{UnknownName, BadArity, Clash, TypeTooLarge, NoMemory}
use Rattle.fp_infer.specs.declared.names.Search.TheVariants.{Unknown, Arity}

-- the type has more nodes
pub record Beyond (cells : List Shape) (at room : ℕ) : Type 0 where
  pub large : (w : ℕ → Typ) → Single w cells → room < type_nodes (w at)

-- each type has at most so many nodes, or the k-th is the first with more
abbrev pub FirstBeyond : List Shape → List ℕ → ℕ → Option ℕ → Type 0
FirstBeyond cells seen room None = (k : ℕ) → k < length seen → Within cells (slice_index_or seen k 0) room
FirstBeyond cells seen room (Some k) =
    (k < length seen) × ((j : ℕ) → j < k → Within cells (slice_index_or seen j 0) room) × Beyond cells (slice_index_or seen k 0) room

-- each typing is an instance of this one, with other types in place of names that aren't written
pub record IsGeneral (s : Signature) (g : Declarations) (given : List (List ℕ × Typ)) (want : Option Typ) (written : List (List ℕ)) (raw : RawTm) (types : ℕ → Typ) : Type 0 where
  pub general : (vars : List ℕ → Typ) (others : ℕ → Typ) → IsTyping s g given want (raw_size raw + 1) raw vars others → Instance written (raw_size raw) types others

-- the term is the written one with types by which all constraints hold, and the further type variables are named in order of first occurrence
pub record Elaborated (s : Signature) (g : Declarations) (given : List (List ℕ × Typ)) (want : Option Typ) (written : List (List ℕ)) (raw : RawTm) (t : Tm) : Type 0 where
  pub vars : List ℕ → Typ
  pub types : ℕ → Typ
  pub typing : IsTyping s g given want (raw_size raw + 1) raw vars types
  pub general : IsGeneral s g given want written raw types
  pub over : (k : ℕ) → k < raw_size raw → IsType s (types k)
  pub is : t ≡ built g types [] 0 raw
  pub typed : type_under [] t ≡ Some (types (top 0 raw))
  pub next : ℕ
  pub names : fresh_before written next ≡ with_unwritten written [] (type_names_in t)

-- all constraints hold by most general types of which the k-th is the first with more than 200 nodes
pub record IsLarge (s : Signature) (g : Declarations) (given : List (List ℕ × Typ)) (want : Option Typ) (written : List (List ℕ)) (raw : RawTm) (k : ℕ) : Type 0 where
  pub vars : List ℕ → Typ
  pub types : ℕ → Typ
  pub typing : IsTyping s g given want (raw_size raw + 1) raw vars types
  pub general : IsGeneral s g given want written raw types
  pub inside : k < raw_size raw
  pub before : (j : ℕ) → j < k → type_nodes (types j) ≤ 200
  pub large : 200 < type_nodes (types k)

-- the constraints of the subterms below the limit hold by types of the signature
pub record SatisfiableOver (s : Signature) (g : Declarations) (given : List (List ℕ × Typ)) (want : Option Typ) (limit : ℕ) (raw : RawTm) : Type 0 where
  pub vars : List ℕ → Typ
  pub types : ℕ → Typ
  pub typing : IsTyping s g given want limit raw vars types
  pub over : (k : ℕ) → IsType s (types k)

abbrev pub ClashesAt : Signature → Declarations → List (List ℕ × Typ) → Option Typ → RawTm → ℕ → Type 0
ClashesAt s g given want raw at = (k : ℕ) × Clashes s g given want raw k × SatisfiableOver s g given want k raw × (at ≡ place_of k raw)

abbrev pub IsLargeAt : Signature → Declarations → List (List ℕ × Typ) → Option Typ → List (List ℕ) → RawTm → ℕ → Type 0
IsLargeAt s g given want written raw at = (k : ℕ) × IsLarge s g given want written raw k × (at ≡ place_of k raw)

-- the names of the term are of the signature, its type constructors with as many arguments
pub record AreRight (s : Signature) (g : Declarations) (raw : RawTm) : Type 0 where
  pub known : earliest None (wrong_in Unknown s g raw) ≡ None
  pub arity : earliest None (wrong_in Arity s g raw) ≡ None

-- the signature's constants have types of it, and so have the given variables and the constants of exact types
abbrev pub AreTypesIn : Signature → List (List ℕ × Typ) → Type 0
AreTypesIn s [] = Unit {0}
AreTypesIn s (p ∷ pairs) = IsType s p.1 × AreTypesIn s pairs

pub record IsSound (s : Signature) (exact given : List (List ℕ × Typ)) : Type 0 where
  pub functions : HasFunctions s
  pub declared : (a : List ℕ) (t : Typ) → found_type a s.consts ≡ Some t → IsType s t
  pub exact_types : AreTypesIn s exact
  pub given_types : AreTypesIn s given

-- the signature, and before its constants those of exact types
abbrev pub with_exact : Signature → List (List ℕ × Typ) → Signature
with_exact s exact = record { types = s.types; consts = exact ++ s.consts }

-- the term is well typed over the signature, of the wanted type where one is wanted
pub record IsTermOf (s : Signature) (want : Option Typ) (t : Tm) : Type 0 where
  pub type : Typ
  pub well_typed : IsWellTyped s t type
  pub wanted : IsWritten want type

-- a clash, before which the types are of the signature where the names are right
abbrev pub MayClashAt : Signature → List (List ℕ × Typ) → List (List ℕ × Typ) → Option Typ → RawTm → ℕ → Type 0
MayClashAt s exact given want raw at =
    (k : ℕ) × Clashes s (declarations s exact) given want raw k × (AreRight s (declarations s exact) raw → IsSound s exact given → SatisfiableOver s (declarations s exact) given want k raw) × (at ≡ place_of k raw)

-- what comes of the names of a written term
abbrev pub ChecksNames : Signature → Declarations → RawTm → Result (Unit {0}) InferFault → Type 0
ChecksNames s g raw (Ok u) = AreRight s g raw
ChecksNames s g raw (Err (UnknownName a at)) = earliest None (wrong_in Unknown s g raw) ≡ Some (at, a)
ChecksNames s g raw (Err (BadArity a at)) = (earliest None (wrong_in Unknown s g raw) ≡ None) × (earliest None (wrong_in Arity s g raw) ≡ Some (at, a))
ChecksNames s g raw (Err (Clash at)) = ⊥
ChecksNames s g raw (Err (TypeTooLarge at)) = ⊥
ChecksNames s g raw (Err NoMemory) = Unit {0}

-- what comes of a written term
abbrev pub Answers : Signature → List (List ℕ × Typ) → List (List ℕ × Typ) → Option Typ → RawTm → Result Tm InferFault → Type 0
Answers s exact given want raw (Ok t) = AreRight s (declarations s exact) raw × Elaborated s (declarations s exact) given want (written_names exact given want raw) raw t
Answers s exact given want raw (Err (UnknownName a at)) = earliest None (wrong_in Unknown s (declarations s exact) raw) ≡ Some (at, a)
Answers s exact given want raw (Err (BadArity a at)) =
    (earliest None (wrong_in Unknown s (declarations s exact) raw) ≡ None) × (earliest None (wrong_in Arity s (declarations s exact) raw) ≡ Some (at, a))
Answers s exact given want raw (Err (Clash at)) = AreRight s (declarations s exact) raw × ClashesAt s (declarations s exact) given want raw at
Answers s exact given want raw (Err (TypeTooLarge at)) = AreRight s (declarations s exact) raw × IsLargeAt s (declarations s exact) given want (written_names exact given want raw) raw at
Answers s exact given want raw (Err NoMemory) = Unit {0}
