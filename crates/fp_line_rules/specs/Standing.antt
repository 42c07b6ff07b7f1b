-- Theorems over a theory's definitions.
use Rattle.std.specs.Prelude.{◌≡◌, List, [], ◌∷◌}
use Rattle.fp_kernel.specs.Definitions.{Def, Within}
use Rattle.fp_kernel.specs.Theorems.{Theorem}

-- a theorem that a line may use: without promises, over no other definitions
pub record IsUsable (defs : List Def) (th : Theorem) : Type 0 where
  pub promises : th.promises ≡ []
  pub within : Within th.defs defs

-- what a line gives: without promises, over just these definitions
pub record IsLine (defs : List Def) (th : Theorem) : Type 0 where
  pub promises : th.promises ≡ []
  pub over : th.defs ≡ defs

-- all of them are what lines give
abbrev pub AreLines : List Def → List Theorem → Type 0
AreLines defs [] = Unit {0}
AreLines defs (th ∷ ths) = IsLine defs th × AreLines defs ths
