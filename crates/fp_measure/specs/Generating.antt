-- The measures of a type.
use Rattle.std.specs.Prelude.{◌≡◌, ℕ, if◌then◌else◌, List, [], ◌∷◌, ◌++◌, take, map, codes, Option, Some, None}
use Rattle.std.specs.Str.{bytes_eq}
use Rattle.fp_term.specs.Types.{Typ, Typs, variable, applied, none, more}
use Rattle.fp_term.specs.Terms.{Tm, bound, constant, app, abs}
use Rattle.fp_term.specs.Typing.{function_type}
use Rattle.fp_conv.specs.Passes.{NormalBy}
use Rattle.fp_shapes.specs.Tuples.{pair_type}
use Rattle.fp_measure.specs.Sources.{measures_of}

-- the types of a list of just two
abbrev pub two_types : Typs → Option (Typ × Typ)
two_types (more s (more t none)) = Some (s, t)
two_types _ = None

-- the parts of a pair type
abbrev pub pair_parts : Typ → Option (Typ × Typ)
pair_parts (variable name) = None
pair_parts (applied name args) = if bytes_eq name (codes "prod") then two_types args else None

-- the function of that name from a pair to its part
abbrev pub projection : List ℕ → Typ → Typ → Tm
projection name pair part = constant name (function_type pair part)

-- a measure of a part as one of the pair: `%x. m (fst x)`, say
abbrev pub of_part : Typ → Tm → Tm → Tm
of_part pair part measure = abs pair (app measure (app part (bound 0)))

-- each of the second terms is the normal form of the one in its place
abbrev pub AreNormalForms : List Tm → List Tm → Type 0
AreNormalForms [] [] = Unit {0}
AreNormalForms (t ∷ ts) (u ∷ us) = NormalBy t u × AreNormalForms ts us
AreNormalForms _ _ = ⊥

-- what the sources have for the type itself, each of them being a list of entries
abbrev pub offered : List (List (Typ × Tm)) → Typ → List Tm
offered [] ty = []
offered (source ∷ sources) ty = measures_of source ty ++ offered sources ty

-- the measures of both parts as ones of the pair, and then what the sources have for it
pub record JoinsParts (sources : List (List (Typ × Tm))) (pair s t : Typ) (ls rs all : List Tm) : Type 0 where
  pub lefts : List Tm
  pub rights : List Tm
  pub left_forms : AreNormalForms (map (of_part pair (projection (codes "fst") pair s)) ls) lefts
  pub right_forms : AreNormalForms (map (of_part pair (projection (codes "snd") pair t)) rs) rights
  pub is : all ≡ lefts ++ (rights ++ offered sources pair)

-- `Generates sources limit ty ms`: of a pair type the measures of its left part, then those of its right part, then what the
-- sources have; of any other type what the sources have. Only the first ones are kept, so many as the limit says
pub data Generates (sources : List (List (Typ × Tm))) (limit : ℕ) : Typ → List Tm → Type 0 where
  of_pair : (s t : Typ) (ls rs all : List Tm) → Generates sources limit s ls → Generates sources limit t rs →
      JoinsParts sources (pair_type s t) s t ls rs all → Generates sources limit (pair_type s t) (take limit all)
  of_other : (ty : Typ) → pair_parts ty ≡ None → Generates sources limit ty (take limit (offered sources ty))
