-- Tables of constructors, each with a type more than the one before it.
use Rattle.std.specs.Prelude.{◌≡◌, List, [], ◌∷◌, ◌++◌}
use Rattle.fp_group.specs.declared.constructors.ConType.{ConType}
use Rattle.fp_group.specs.declared.constructors.ConTable.{ConTable}

-- the types of the last table, or those before
abbrev pub last_types : List ConType → List ConTable → List ConType
last_types before [] = before
last_types before (table ∷ rest) = last_types table.types rest

abbrev pub AreGrowing : List ConType → List ConTable → Type 0
AreGrowing before [] = Unit {0}
AreGrowing before (table ∷ rest) = ((c : ConType) × (table.types ≡ before ++ c ∷ [])) × AreGrowing table.types rest
