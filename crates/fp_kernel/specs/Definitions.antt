-- Definitions as data, and lists of them with the newest first.
use Rattle.std.specs.Prelude.{ℕ, nat_lt, if◌then◌else◌, List, [], ◌∷◌, length}
use Rattle.fp_term.specs.Types.{Typ}
use Rattle.fp_term.specs.Terms.{Tm}

pub data Def : Type 0 where
  -- the constant `name` of that type, equal to the body
  new_constant : (name : List ℕ) (type : Typ) (body : Tm) → Def
  -- the type constructor `name` with these parameters: what meets the predicate, as the inhabitant does, by `abs` and `rep`
  new_type : (name : List ℕ) (params : List (List ℕ)) (predicate inhabitant : Tm) (abs rep : List ℕ) → Def

-- the one list is the other with newer definitions before it
pub data Within : List Def → List Def → Type 0 where
  whole : {defs : List Def} → Within defs defs
  newer : {old defs : List Def} (d : Def) → Within old defs → Within old (d ∷ defs)

-- the first definitions of the list, of that number
abbrev pub oldest : ℕ → List Def → List Def
oldest level [] = []
oldest level (d ∷ older) = if nat_lt (length older) level then d ∷ older else oldest level older
