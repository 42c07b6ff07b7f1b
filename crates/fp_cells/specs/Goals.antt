-- The goals of a cell.
use Rattle.std.specs.Prelude.{◌≡◌, ◌<◌, ℕ, List, length, codes, Option, Some, None, slice_get}
use Rattle.fp_term.specs.Types.{Typ, applied, none}
use Rattle.fp_term.specs.Terms.{Tm, constant, app}
use Rattle.fp_term.specs.Typing.{function_type}
use Rattle.fp_conclude.specs.Logic.{truth_type}
use Rattle.fp_conv.specs.Passes.{NormalBy}
use Rattle.fp_shapes.specs.Tuples.{tuple}
use Rattle.fp_group.specs.declared.clause.Head.{Head}
use Rattle.fp_group.specs.declared.clause.Clause.{Clause}
use Rattle.fp_group.specs.declared.site.CallSite.{CallSite}
use Rattle.fp_group.specs.declared.group.Group.{Group}
use Rattle.fp_order.specs.declared.grid.Cell.{Cell}
use Rattle.fp_simp.specs.declared.cell.CellData.{CellData}

abbrev pub natural : Typ
natural = applied (codes "nat") none

-- a relation of that name between natural numbers, of two terms
abbrev pub related : List ℕ → Tm → Tm → Tm
related name x y = app (app (constant name (function_type natural (function_type natural truth_type))) x) y

-- the measure of that number of the function of that number
abbrev pub numbered_in : Option (List Tm) → ℕ → Option Tm
numbered_in None number = None
numbered_in (Some terms) number = slice_get terms number

abbrev pub measure_at : List (List Tm) → ℕ → ℕ → Option Tm
measure_at measures function number = numbered_in (slice_get measures function) number

-- what a cell speaks of: a call, the clause that it stands in, the two functions, and a measure of each. There is one term for
-- each argument
pub record Speaks (g : Group) (measures : List (List Tm)) (c : Cell) (site : CallSite) (clause : Clause) (caller callee : Head) (source target : Tm) : Type 0 where
  pub site_is : slice_get g.sites c.row ≡ Some site
  pub clause_is : slice_get g.clauses site.clause ≡ Some clause
  pub caller_is : slice_get g.heads site.caller ≡ Some caller
  pub callee_is : slice_get g.heads site.callee ≡ Some callee
  pub source_is : measure_at measures site.caller c.source ≡ Some source
  pub target_is : measure_at measures site.callee c.target ≡ Some target

-- both functions have arguments, and there is a term for each
pub record IsFull (site : CallSite) (clause : Clause) (caller callee : Head) : Type 0 where
  pub caller_some : 0 < length caller.args
  pub callee_some : 0 < length callee.args
  pub patterns_each : length clause.patterns ≡ length caller.args
  pub args_each : length site.args ≡ length callee.args

-- the cell is one of the group with these measures
pub record CanAsk (g : Group) (measures : List (List Tm)) (c : Cell) : Type 0 where
  pub site : CallSite
  pub clause : Clause
  pub caller : Head
  pub callee : Head
  pub source : Tm
  pub target : Tm
  pub speaks : Speaks g measures c site clause caller callee source target
  pub full : IsFull site clause caller callee

-- the guards of the call, and as normal forms that the callee's measure is less than the caller's and that it is at most as large
pub record AreGoals (g : Group) (measures : List (List Tm)) (c : Cell) (d : CellData) : Type 0 where
  pub site : CallSite
  pub clause : Clause
  pub caller : Head
  pub callee : Head
  pub source : Tm
  pub target : Tm
  pub speaks : Speaks g measures c site clause caller callee source target
  pub guards : d.guards ≡ site.guards
  pub strict : NormalBy (related (codes "less") (app target (tuple callee.args site.args)) (app source (tuple caller.args clause.patterns))) d.strict
  pub weak : NormalBy (related (codes "leq") (app target (tuple callee.args site.args)) (app source (tuple caller.args clause.patterns))) d.weak
