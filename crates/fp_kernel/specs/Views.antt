-- Definitions as the program holds them.
use Rattle.std.specs.Prelude.{◌≡◌, ℕ, ◌+◌, List, [], ◌∷◌, length, Option, Some, None}
use Rattle.fp_term.specs.declared.signature.Signature.{Signature}
use Rattle.fp_kernel.specs.Definitions.{Def, new_constant, new_type}
use Rattle.fp_kernel.specs.Start.{signature_of}
use Rattle.fp_kernel.specs.Conservative.{IsConservative}
use Rattle.fp_kernel.specs.declared.definition.Definition.{Definition}
use Rattle.fp_kernel.specs.declared.definition.Definition.TheVariants.{Constant, NewType}
use Rattle.fp_kernel.specs.declared.definition.Link.{Link}
use Rattle.fp_kernel.specs.declared.definition.Link.TheVariants.{Start, Then}
use Rattle.fp_kernel.specs.declared.definition.Cell.{Cell}

abbrev pub def_seen : Definition → Def
def_seen (Constant name ty body) = new_constant name ty body
def_seen (NewType name params predicate inhabitant abstract represent) = new_type name params predicate inhabitant abstract represent

abbrev pub linked : Link → List Def
linked Start = []
linked (Then newest older) = def_seen newest ∷ older

-- the number of the definitions and their signature are right, and the definitions are conservative
pub record Keeps (level : ℕ) (signature : Signature) (defs : List Def) : Type 0 where
  pub counted : level ≡ length defs
  pub known : signature ≡ signature_of defs
  pub conservative : IsConservative defs

-- one more than the number of definitions from the cell on, where there is one
abbrev pub links_left : Option Cell → ℕ
links_left None = 0
links_left (Some cell) = length (linked cell.link) + 1
