use Rattle.std.proofs.Common.{◌∙◌, ap, arith, length, length-drop}
use Rattle.std.proofs.Math.Seq.{take-add}
use Rattle.fp_outside.proofs.Outside.{Appends-then, rest_all}
use Rattle.fp_outside.proofs.sink.write_all.Goals as goal

pub loop-done-preserved : goal.loop-done-preserved
loop-done-preserved g c =
    let bytes = c.args.bytes.now in
    let done = c.loop-done.done in
    let old = c.loop-done.invariant in
    let taken = c.in_ok-done.ensures in
    record {
      within = omega (arith, taken.taken, ap length (rest_all done bytes), length-drop done bytes);
      prefix = rw (take-add done c.in_ok-done.field-0 bytes, ← rest_all done bytes) (Appends-then _ _ _ _ _ old.prefix taken.bytes);
      counts = taken.cause.kept ∙ old.counts;
    }
