use Rattle.std.proofs.Common.{◌∙◌, ap}
use Rattle.std.specs.Prelude.{codes}
use Rattle.fp_term.specs.Terms.{Tm, app}
use Rattle.fp_conclude.specs.Logic.{truth_type, predicate_type, equal, connective}
use Rattle.fp_kernel.specs.Theorems.{plain}
use Rattle.fp_logic.proofs.Given.{at_known, known_typed}
use Rattle.fp_disjunction.proofs.Joined.{or_typed}
use Rattle.fp_disjunction.proofs.joining.own_or_at.Goals as goal

pub refl_known-requires : goal.refl_known-requires
refl_known-requires c =
    let e = c.in_ok-applied.ensures ∙ ap (λ (x : Tm). app x c.args.term.now) c.in_ok-or.ensures in
    known_typed c.args.defs.now c.in_ok-applied.applied (app (connective (codes "or")) c.args.term.now) (predicate_type truth_type) e (or_typed c.args.defs.now c.args.term.now c.requires)

pub returns : goal.returns
returns c =
    let e = c.in_ok-applied.ensures ∙ ap (λ (x : Tm). app x c.args.term.now) c.in_ok-or.ensures in
    at_known c.refl_known.result (λ t s. plain c.args.defs.now (equal s t t)) c.in_ok-applied.applied (app (connective (codes "or")) c.args.term.now) (predicate_type truth_type) e (or_typed c.args.defs.now c.args.term.now c.requires).typed c.refl_known.ensures
