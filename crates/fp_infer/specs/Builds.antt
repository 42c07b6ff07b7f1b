-- What the program builds from a solved table.
use Rattle.std.specs.Prelude.{◌≡◌, ◌<◌, ◌≤◌, ◌+◌, ℕ, List, [], ◌∷◌, length, slice_index_or}
use Rattle.fp_term.specs.Types.{Typ}
use Rattle.fp_term.specs.Terms.{Tm}
use Rattle.fp_term.specs.Typing.{function_type}
use Rattle.fp_term.specs.Variables.{type_names_in}
use Rattle.fp_constrain.specs.Declarations.{Declared, Declarations}
use Rattle.fp_raw.specs.Raws.{RawTm, raw_name, raw_bound, raw_free, raw_constant, raw_app, raw_abs, raw_typed, raw_size}
use Rattle.fp_unify.specs.Cells.{Fits, AreFine}
use Rattle.fp_unify.specs.Settled.{Determines}
use Rattle.fp_constrain.specs.Draws.{typing}
use Rattle.fp_unify.specs.Naming.{Pairs, names_of, Agrees, AreWritten, Within}
use Rattle.fp_unify.specs.Candidates.{with_unwritten}
use Rattle.fp_infer.specs.Built.{Around, built}
use Rattle.fp_unify.specs.declared.table.Shape.{Shape}
use Rattle.fp_infer.specs.declared.building.Binders.{Binders}
use Rattle.fp_infer.specs.declared.building.Binders.TheVariants.{Outermost, Under'}

-- the names of the bound variables around a term, as the program holds them
abbrev pub around_of : Binders → Around
around_of Outermost = []
around_of (Under' called p outer) = called.now ∷ around_of outer

-- the table determines types of the subterms, each of at most so many nodes
pub record IsReady (cells : List Shape) (seen : List ℕ) (written : List (List ℕ)) (room : ℕ) : Type 0 where
  pub fine : AreFine cells
  pub determines : Determines cells
  pub names : AreWritten cells written
  pub inside : (k : ℕ) → k < length seen → slice_index_or seen k 0 < length cells
  pub small : (k : ℕ) → k < length seen → Within cells (slice_index_or seen k 0) room

-- the type is one of functions
pub record IsArrow (cells : List Shape) (at : ℕ) : Type 0 where
  pub is : (v : ℕ → Typ) → Fits v cells → (from : Typ) × (to : Typ) × (v at ≡ function_type from to)

-- each abstraction in the term has a type of functions
abbrev pub AreArrows : List Shape → List ℕ → ℕ → RawTm → Type 0
AreArrows cells seen n (raw_name a at) = Unit {0}
AreArrows cells seen n (raw_bound k at) = Unit {0}
AreArrows cells seen n (raw_free a s at) = Unit {0}
AreArrows cells seen n (raw_constant a s at) = Unit {0}
AreArrows cells seen n (raw_app f x at) = AreArrows cells seen n f × AreArrows cells seen (n + raw_size f) x
AreArrows cells seen n (raw_abs a w x at) = AreArrows cells seen n x × IsArrow cells (slice_index_or seen (n + raw_size x) 0)
AreArrows cells seen n (raw_typed x w at) = AreArrows cells seen n x

-- the term is the built one, with the names in order of first occurrence
pub record Builds (g : Declarations) (cells : List Shape) (written : List (List ℕ)) (seen : List ℕ) (around : Around) (n : ℕ) (raw : RawTm) (old new : Pairs) (t : Tm) : Type 0 where
  pub later : (v : ℕ → Typ) → Agrees v new → Agrees v old
  pub is : (v : ℕ → Typ) → Fits v cells → Agrees v new → t ≡ built g (typing v seen) around n raw
  pub names : names_of new ≡ with_unwritten written (names_of old) (type_names_in t)
