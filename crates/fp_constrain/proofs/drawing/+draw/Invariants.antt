use Rattle.std.proofs.Common.{◌+◌, ◌*◌}
use Rattle.fp_raw.specs.Raws.{raw_size}
use Rattle.fp_constrain.proofs.drawing.+draw.Given as goal

abbrev pub decreases-draw : goal.decreases-draw
decreases-draw l = 2 * raw_size l.raw.now

abbrev pub decreases-draw_app : goal.decreases-draw_app
decreases-draw_app l = 2 * (raw_size l.fun.now + raw_size l.arg.now) + 1

abbrev pub decreases-draw_abs : goal.decreases-draw_abs
decreases-draw_abs l = 2 * raw_size l.body.now + 1

abbrev pub decreases-draw_typed : goal.decreases-draw_typed
decreases-draw_typed l = 2 * raw_size l.term.now + 1
