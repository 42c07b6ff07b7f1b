-- What a theorem of a simplification says.
use Rattle.std.specs.Prelude.{◌≡◌, true, List, []}
use Rattle.std.specs.List.{list_all}
use Rattle.fp_term.specs.Types.{Typ}
use Rattle.fp_term.specs.Terms.{Tm}
use Rattle.fp_conclude.specs.Logic.{equal}
use Rattle.fp_conclude.specs.Hypotheses.{member}
use Rattle.fp_kernel.specs.Definitions.{Def, Within}
use Rattle.fp_kernel.specs.Theorems.{Theorem}
use Rattle.fp_order.specs.declared.entry.Entry.{Entry}
use Rattle.fp_order.specs.declared.entry.Entry.TheVariants.{Less, Leq, Unknown}
use Rattle.fp_simp.specs.declared.cell.CellData.{CellData}

-- the theorem stands over the definitions, without promises, and each of its hypotheses is a guard
pub record RestsOn (defs : List Def) (guards : List Tm) (th : Theorem) : Type 0 where
  pub over : Within th.defs defs
  pub promises : th.promises ≡ []
  pub hyps : list_all (λ h. member h guards) th.hyps ≡ true

-- moreover, it concludes that the one term is the other
pub record Equates (defs : List Def) (guards : List Tm) (t u : Tm) (th : Theorem) : Type 0 where
  pub rests : RestsOn defs guards th
  pub type : Typ
  pub concl : th.concl ≡ equal type t u

-- moreover, it concludes that formula
pub record Proves (defs : List Def) (guards : List Tm) (p : Tm) (th : Theorem) : Type 0 where
  pub rests : RestsOn defs guards th
  pub concl : th.concl ≡ p

-- the theorem of a cell's entry: the strict goal for Less, the weak one for Leq
abbrev pub ProvesEntry : List Def → CellData → Entry → Theorem → Type 0
ProvesEntry defs cell Less th = Proves defs cell.guards cell.strict th
ProvesEntry defs cell Leq th = Proves defs cell.guards cell.weak th
ProvesEntry defs cell Unknown th = ⊥
