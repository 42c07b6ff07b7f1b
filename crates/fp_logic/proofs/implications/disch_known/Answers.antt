use Rattle.std.proofs.Common.{refl}
use Rattle.fp_kernel.specs.Definitions.{whole}
use Rattle.fp_logic.proofs.Turning.{lifted}
use Rattle.fp_logic.proofs.implications.disch_known.Goals as goal

pub lemma_at-requires-clause-first : goal.lemma_at-requires-clause-first
lemma_at-requires-clause-first c = c.requires.formula

pub lemma_at-requires-clause-second : goal.lemma_at-requires-clause-second
lemma_at-requires-clause-second c = rw c.concl.ensures.value (lifted c.args.defs.now c.args.a.now c.requires.within c.concl.ensures.derived)

pub convert-requires : goal.convert-requires
convert-requires c = rw (c.in_ok-meaning.ensures, c.in_ok-implied.ensures, c.concl.ensures.value) (refl, whole, refl)

pub returns : goal.returns
returns c = rw (c.in_ok-meaning.ensures, c.in_ok-implied.ensures, c.concl.ensures.value) at c.convert.ensures
