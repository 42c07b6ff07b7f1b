-- The short text of types.
use Rattle.std.specs.Prelude.{ℕ, nat_lt, if◌then◌else◌, List, [], ◌∷◌, ◌++◌, Option, Some, None, codes}
use Rattle.std.specs.Str.{bytes_eq}
use Rattle.fp_term.specs.Types.{Typ, Typs, variable, applied, none, more}
use Rattle.fp_print.specs.Shapes.{Infix, infix_of}

-- the symbol of a type constructor with two arguments
abbrev pub type_infix : List ℕ → Option Infix
type_infix name =
    if bytes_eq name (codes "fun") then Some (infix_of (codes "=>") 0 1 0) else
    (if bytes_eq name (codes "sum") then Some (infix_of (codes "+") 1 2 1) else
    (if bytes_eq name (codes "prod") then Some (infix_of (codes "*") 2 3 2) else None))

abbrev pub level_by : Option Infix → ℕ
level_by None = 3
level_by (Some symbol) = symbol.level

abbrev pub type_level : Typ → ℕ
type_level (variable a) = 4
type_level (applied name none) = 4
type_level (applied name (more s none)) = 3
type_level (applied name (more s (more t none))) = level_by (type_infix name)
type_level (applied name (more s (more t (more u rest)))) = 3

-- in parentheses where the level is below the one that is needed
abbrev pub type_part : ℕ → Typ → List ℕ → List ℕ
type_part need t text = if nat_lt (type_level t) need then 40 ∷ (text ++ 41 ∷ []) else text

abbrev pub after_commas : List (List ℕ) → List ℕ
after_commas [] = []
after_commas (text ∷ texts) = codes ", " ++ (text ++ after_commas texts)

-- `(s, t) name`
abbrev pub listed : List ℕ → List ℕ → List (List ℕ) → List ℕ
listed name first texts = codes "(" ++ (first ++ (after_commas texts ++ (codes ") " ++ name)))

-- two types with a symbol between them, or before a name
abbrev pub two_types : Option Infix → List ℕ → Typ → Typ → List ℕ → List ℕ → List ℕ
two_types (Some symbol) name s t first next = type_part symbol.left s first ++ 32 ∷ (symbol.symbol ++ 32 ∷ type_part symbol.right t next)
two_types None name s t first next = listed name first (next ∷ [])

-- a constructor with its arguments, whose texts are known
abbrev pub applied_text : List ℕ → Typs → List (List ℕ) → List ℕ
applied_text name (more s none) (first ∷ texts) = type_part 3 s first ++ 32 ∷ name
applied_text name (more s (more t none)) (first ∷ next ∷ texts) = two_types (type_infix name) name s t first next
applied_text name (more s (more t (more u rest))) (first ∷ texts) = listed name first texts
applied_text name _ _ = name

abbrev mutual
  pub short_type : Typ → List ℕ
  short_type (variable a) = 39 ∷ a
  short_type (applied name args) = applied_text name args (each_type args)

  pub each_type : Typs → List (List ℕ)
  each_type none = []
  each_type (more t ts) = short_type t ∷ each_type ts
