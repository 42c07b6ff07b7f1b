use Rattle.std.proofs.Common.{refl}
use Rattle.fp_logic.proofs.Turning.{lifted}
use Rattle.fp_logic.proofs.truths.eqt_known.Goals as goal

pub lemma_at-requires-clause-first : goal.lemma_at-requires-clause-first
lemma_at-requires-clause-first c = rw c.concl.ensures.value (lifted c.args.defs.now c.args.a.now c.requires c.concl.ensures.derived)

pub lemma_at-requires-clause-second : goal.lemma_at-requires-clause-second
lemma_at-requires-clause-second c = rw c.concl-2.ensures.value (lifted c.args.defs.now c.args.a.now c.requires c.concl.ensures.derived)

pub convert-requires : goal.convert-requires
convert-requires c = rw (c.in_ok-equation.ensures, c.concl.ensures.value) (refl, c.requires, refl)

pub returns : goal.returns
returns c = rw (c.in_ok-equation.ensures, c.concl.ensures.value) at c.convert.ensures
