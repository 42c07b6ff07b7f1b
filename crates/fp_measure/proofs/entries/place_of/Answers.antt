use Rattle.std.proofs.Common.{◌∙◌, sym}
use Rattle.fp_measure.proofs.Measuring.{put_found}
use Rattle.fp_measure.proofs.entries.place_of.Goals as goal

pub returns-then-equals-clause-some : goal.returns-then-equals-clause-some
returns-then-equals-clause-some c = (
  c.loop-place-test.true,
  λ term. put_found c.args.ty.now term c.args.entries.now c.loop-place.place c.index-entries-place.result c.index-entries-place.is (sym c.equals.ensures ∙ c.if-equals.true) c.loop-place-test.true (c.loop-place.invariant term),
)
