use Rattle.std.proofs.Common.{refl}
use Rattle.fp_term.specs.Names.{equality}
use Rattle.fp_term.specs.Terms.{constant}
use Rattle.fp_conclude.specs.Logic.{equality_type, equal}
use Rattle.fp_kernel.specs.Theorems.{plain}
use Rattle.fp_logic.proofs.Given.{at_type}
use Rattle.fp_logic.proofs.equations.equality_of.Goals as goal

pub refl_known-requires : goal.refl_known-requires
refl_known-requires c = (equality_type c.args.ty.now, rw c.in_ok-term.ensures c.requires)

pub returns : goal.returns
returns c =
    let t = constant equality (equality_type c.args.ty.now) in
    at_type c.refl_known.result t (λ u. plain c.args.defs.now (equal u t t)) (equality_type c.args.ty.now) refl (rw c.in_ok-term.ensures at c.refl_known.ensures)
