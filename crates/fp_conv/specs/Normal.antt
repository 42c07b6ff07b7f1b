-- Theorems that are equations of a term with what it reduces to.
use Rattle.std.specs.Prelude.{◌≡◌, true, List, []}
use Rattle.fp_term.specs.Terms.{Tm}
use Rattle.fp_kernel.specs.Definitions.{Def}
use Rattle.fp_kernel.specs.Theorems.{Theorem}
use Rattle.fp_conv.specs.Equations.{Equates}
use Rattle.fp_conv.specs.Beta.{Reduces, is_normal}
use Rattle.fp_conv.specs.Passes.{NormalBy}

-- the theorem is `t = u` without hypotheses and promises, where `t` reduces to `u`
pub record Reduction (defs : List Def) (t : Tm) (th : Theorem) : Type 0 where
  pub reduct : Tm
  pub reduces : Reduces t reduct
  pub equates : Equates defs [] [] t reduct th

-- moreover, nothing of `u` is left to reduce, and it is the one that passes come to
pub record NormalForm (defs : List Def) (t : Tm) (th : Theorem) : Type 0 where
  pub reduct : Tm
  pub reduces : Reduces t reduct
  pub normal : is_normal reduct ≡ true
  pub by_passes : NormalBy t reduct
  pub equates : Equates defs [] [] t reduct th

-- the theorem has the beta-normal form of the other's conclusion, with the other's hypotheses and promises
pub record Normalizes (defs : List Def) (a th : Theorem) : Type 0 where
  pub reduct : Tm
  pub reduces : Reduces a.concl reduct
  pub normal : is_normal reduct ≡ true
  pub by_passes : NormalBy a.concl reduct
  pub is : th ≡ record { defs = defs; promises = a.promises; hyps = a.hyps; concl = reduct }
