use Rattle.std.proofs.Common.{◌∙◌, refl, ap}
use Rattle.fp_term.specs.Terms.{app}
use Rattle.fp_conclude.specs.Logic.{truth_type}
use Rattle.fp_kernel.specs.Theorems.{Theorem}
use Rattle.fp_conclude.specs.Shapes.{left}
use Rattle.fp_disjunction.specs.Schemas.{all_ways}
use Rattle.fp_logic.proofs.Given.{Reduced, known_at, known_redex, known_typed}
use Rattle.fp_disjunction.proofs.Ways.{ways_reduced, ways_typed}
use Rattle.fp_disjunction.proofs.disjunctions.ways.Goals as goal

pub ways_at-requires-clause-disjunction : goal.ways_at-requires-clause-disjunction
ways_at-requires-clause-disjunction c = c.requires.disjunction

pub beta_known-requires-clause-redex : goal.beta_known-requires-clause-redex
beta_known-requires-clause-redex c = known_redex c.left.result.now (app (all_ways c.args.left.now c.args.right.now) c.args.term.now) (c.left.ensures ∙ ap left c.concl.ensures.value ∙ ap (λ (x : Theorem). left x.concl) c.in_ok-against.ensures) refl

pub beta_known-requires-clause-typed : goal.beta_known-requires-clause-typed
beta_known-requires-clause-typed c = known_typed c.args.defs.now c.left.result.now (app (all_ways c.args.left.now c.args.right.now) c.args.term.now) truth_type (c.left.ensures ∙ ap left c.concl.ensures.value ∙ ap (λ (x : Theorem). left x.concl) c.in_ok-against.ensures) (ways_typed c.args.defs.now c.in_ok-against.against c.args.left.now c.args.right.now c.args.term.now (ap (λ (x : Theorem). x.defs) c.in_ok-against.ensures) c.concl.ensures.derived (ap (λ (x : Theorem). x.concl) c.in_ok-against.ensures))

pub established-requires-clause-first : goal.established-requires-clause-first
established-requires-clause-first c = ap (λ (x : Theorem). x.defs) c.in_ok-against.ensures

pub established-requires-clause-second : goal.established-requires-clause-second
established-requires-clause-second c =
    let is = known_at c.in_ok-equation.equation (Reduced c.args.defs.now) c.left.result.now (app (all_ways c.args.left.now c.args.right.now) c.args.term.now) truth_type (c.left.ensures ∙ ap left c.concl.ensures.value ∙ ap (λ (x : Theorem). left x.concl) c.in_ok-against.ensures) (ways_typed c.args.defs.now c.in_ok-against.against c.args.left.now c.args.right.now c.args.term.now (ap (λ (x : Theorem). x.defs) c.in_ok-against.ensures) c.concl.ensures.derived (ap (λ (x : Theorem). x.concl) c.in_ok-against.ensures)).typed c.in_ok-equation.ensures
    ∙ ways_reduced c.args.defs.now c.args.left.now c.args.right.now c.args.term.now c.requires.disjunction.2 c.requires.disjunction.3 in
    ap (λ (x : Theorem). x.defs) is

pub established-requires-clause-shape : goal.established-requires-clause-shape
established-requires-clause-shape c = rw c.in_ok-against.ensures refl

pub established-requires-clause-equation : goal.established-requires-clause-equation
established-requires-clause-equation c =
    let is = known_at c.in_ok-equation.equation (Reduced c.args.defs.now) c.left.result.now (app (all_ways c.args.left.now c.args.right.now) c.args.term.now) truth_type (c.left.ensures ∙ ap left c.concl.ensures.value ∙ ap (λ (x : Theorem). left x.concl) c.in_ok-against.ensures) (ways_typed c.args.defs.now c.in_ok-against.against c.args.left.now c.args.right.now c.args.term.now (ap (λ (x : Theorem). x.defs) c.in_ok-against.ensures) c.concl.ensures.derived (ap (λ (x : Theorem). x.concl) c.in_ok-against.ensures)).typed c.in_ok-equation.ensures
    ∙ ways_reduced c.args.defs.now c.args.left.now c.args.right.now c.args.term.now c.requires.disjunction.2 c.requires.disjunction.3 in
    rw (is, c.in_ok-against.ensures) refl

pub returns : goal.returns
returns c =
    let is = known_at c.in_ok-equation.equation (Reduced c.args.defs.now) c.left.result.now (app (all_ways c.args.left.now c.args.right.now) c.args.term.now) truth_type (c.left.ensures ∙ ap left c.concl.ensures.value ∙ ap (λ (x : Theorem). left x.concl) c.in_ok-against.ensures) (ways_typed c.args.defs.now c.in_ok-against.against c.args.left.now c.args.right.now c.args.term.now (ap (λ (x : Theorem). x.defs) c.in_ok-against.ensures) c.concl.ensures.derived (ap (λ (x : Theorem). x.concl) c.in_ok-against.ensures)).typed c.in_ok-equation.ensures
    ∙ ways_reduced c.args.defs.now c.args.left.now c.args.right.now c.args.term.now c.requires.disjunction.2 c.requires.disjunction.3 in
    rw (is, c.in_ok-against.ensures) at c.established.ensures
