use Rattle.std.proofs.Common.{◌≡◌, subst}
use Rattle.std.specs.Prelude.{IfOk}
use Rattle.fp_conclude.specs.Logic.{truth_type}
use Rattle.fp_kernel.specs.Theorems.{Theorem}
use Rattle.fp_disjunction.proofs.False.{always_asks, always_gives}
use Rattle.fp_disjunction.proofs.falsity.always_at.Goals as goal

pub refl_known-requires : goal.refl_known-requires
refl_known-requires c = (truth_type, c.requires.formula)

pub unfold-requires : goal.unfold-requires
unfold-requires c = rw (c.in_ok-own.ensures truth_type c.requires.formula.typed) (always_asks c.args.defs.now c.args.th.now c.args.term.now c.requires.always)

pub returns : goal.returns
returns c =
    subst (λ (x : Theorem). IfOk c.unfold.result (λ u. u ≡ x)) (always_gives c.args.defs.now c.args.th.now c.args.term.now c.requires.always) (rw (c.in_ok-own.ensures truth_type c.requires.formula.typed) at c.unfold.ensures)
