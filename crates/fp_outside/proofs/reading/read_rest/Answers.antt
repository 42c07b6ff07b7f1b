use Rattle.std.proofs.Common.{◌∙◌, ℕ, arith, length-take}
use Rattle.fp_outside.proofs.Outside.{Consumes-then, HasMore-read}
use Rattle.fp_outside.proofs.reading.read_rest.Goals as goal

pub loop-count-preserved : goal.loop-count-preserved
loop-count-preserved g c =
    let old = c.loop-count.invariant in
    let read = c.in_ok-count.ensures in
    record {
      whole = rw c.in_ok-extend_from_slice.ensures.items (Consumes-then _ _ _ _ _ old.whole read.bytes.0);
      fits = omega (arith, c.in_ok-extend_from_slice.ensures.len);
      counts = read.cause.kept ∙ old.counts;
      named = read.named ∙ old.named;
      held = read.held ∙ old.held;
      opened = read.opened ∙ old.opened;
      current = read.current;
    }

pub returns-then-count-room-clause-too_long : goal.returns-then-count-room-clause-too_long
returns-then-count-room-clause-too_long g c = λ _.
    HasMore-read _ _ _ _ _ _ c.loop-count.invariant.whole c.in_ok-count.ensures.bytes.0 (omega (arith, length-take {A = ℕ}, c.in_ok-count.ensures.bound))
