use Rattle.std.proofs.Common.{refl}
use Rattle.std.specs.Prelude.{codes}
use Rattle.fp_conclude.specs.Logic.{truth_type, binary_type, equal, connective}
use Rattle.fp_kernel.specs.Theorems.{plain}
use Rattle.fp_logic.proofs.Concrete.{at_start}
use Rattle.fp_logic.proofs.Given.{at_known, known_typed}
use Rattle.fp_disjunction.proofs.joining.own_or.Goals as goal

pub refl_known-requires : goal.refl_known-requires
refl_known-requires c =
    let t = connective (codes "or") in
    known_typed c.args.defs.now c.in_ok-or.or t (binary_type truth_type truth_type) c.in_ok-or.ensures (at_start c.args.defs.now t (binary_type truth_type truth_type) refl refl)

pub returns : goal.returns
returns c =
    at_known c.refl_known.result (λ t s. plain c.args.defs.now (equal s t t)) c.in_ok-or.or (connective (codes "or")) (binary_type truth_type truth_type) c.in_ok-or.ensures refl c.refl_known.ensures
