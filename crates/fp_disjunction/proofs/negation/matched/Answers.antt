use Rattle.std.proofs.Common.{◌≡◌, ◌∙◌, ap, subst}
use Rattle.std.specs.Prelude.{IfOk}
use Rattle.fp_conclude.specs.Logic.{truth_type}
use Rattle.fp_kernel.specs.Theorems.{Theorem}
use Rattle.fp_conclude.specs.Shapes.{left}
use Rattle.fp_logic.proofs.Given.{known_typed}
use Rattle.fp_disjunction.proofs.Matched.{first_typed, match_asks, match_gives}
use Rattle.fp_disjunction.proofs.negation.matched.Goals as goal

pub refl_known-requires : goal.refl_known-requires
refl_known-requires c =
    known_typed c.args.defs.now c.left.result.now (left c.args.first.now.concl) truth_type (c.left.ensures ∙ ap left c.concl.ensures.value) (first_typed c.args.defs.now c.args.first.now c.requires.first c.concl.ensures.derived)

pub turn-requires : goal.turn-requires
turn-requires c =
    let own = rw (c.left.ensures, c.concl.ensures.value) at c.in_ok-own.ensures in
    rw (c.in_ok-equality.ensures, own truth_type (first_typed c.args.defs.now c.args.first.now c.requires.first c.concl.ensures.derived).typed) (match_asks c.args.defs.now c.args.first.now c.args.second.now c.requires.first c.requires.second)

pub returns : goal.returns
returns c =
    subst (λ (x : Theorem). IfOk c.turn.result (λ th. th ≡ x)) (match_gives c.args.defs.now c.args.first.now c.args.second.now c.requires.first c.requires.second) c.turn.ensures
