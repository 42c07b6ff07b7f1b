-- What stands for the variables of what is derived of `?`, and theorems that something has a property.
use Rattle.std.specs.Prelude.{◌≡◌, ℕ, List, [], ◌∷◌, codes}
use Rattle.fp_term.specs.Types.{Typ}
use Rattle.fp_term.specs.Terms.{Tm}
use Rattle.fp_term.specs.Signatures.{IsType, IsWellTyped}
use Rattle.fp_conclude.specs.Logic.{predicate_type}
use Rattle.fp_forms.specs.Existence.{some_such}
use Rattle.fp_kernel.specs.Definitions.{Def, Within}
use Rattle.fp_kernel.specs.Start.{signature_of}
use Rattle.fp_kernel.specs.Theorems.{Theorem}

-- a predicate and another term for variables
abbrev pub placed : Typ → Tm → List ℕ → Typ → Tm → List (List ℕ × Typ × Tm)
placed s p name ty t = (codes "P", predicate_type s, p) ∷ (name, ty, t) ∷ []

-- a predicate on a type of the signature
abbrev pub IsPredicate : List Def → Typ → Tm → Type 0
IsPredicate defs s p = IsType (signature_of defs) s × IsWellTyped (signature_of defs) p (predicate_type s)

-- a theorem that something has the property
abbrev pub IsExistence : List Def → Theorem → Typ → Tm → Type 0
IsExistence defs a s p = Within a.defs defs × (a.concl ≡ some_such s p) × IsPredicate defs s p
