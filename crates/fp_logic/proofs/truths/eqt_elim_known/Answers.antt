use Rattle.std.proofs.Common.{refl}
use Rattle.fp_conclude.specs.Logic.{truth_type, true_constant}
use Rattle.fp_logic.proofs.Turning.{lifted_sides}
use Rattle.fp_logic.proofs.truths.eqt_elim_known.Goals as goal

pub lemma_at-requires-clause-first : goal.lemma_at-requires-clause-first
lemma_at-requires-clause-first c = (lifted_sides c.args.defs.now c.args.a.now truth_type c.args.concl.now true_constant c.requires.within c.concl-concl.ensures.derived c.requires.shape).left

pub lemma_at-requires-clause-second : goal.lemma_at-requires-clause-second
lemma_at-requires-clause-second c = (lifted_sides c.args.defs.now c.args.a.now truth_type c.args.concl.now true_constant c.requires.within c.concl-concl.ensures.derived c.requires.shape).left

pub convert-requires : goal.convert-requires
convert-requires c = rw (c.in_ok-equation.ensures, c.requires.shape) (refl, c.requires.within, refl)

pub returns : goal.returns
returns c = rw c.in_ok-equation.ensures at c.convert.ensures
