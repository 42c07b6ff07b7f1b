use Rattle.std.proofs.Common.{◌+◌, ◌*◌}
use Rattle.fp_raw.specs.Raws.{raw_size}
use Rattle.fp_infer.proofs.building.+build.Given as goal

abbrev pub decreases-build : goal.decreases-build
decreases-build l = 2 * raw_size l.raw.now

abbrev pub decreases-build_app : goal.decreases-build_app
decreases-build_app l = 2 * (raw_size l.fun.now + raw_size l.arg.now) + 1

abbrev pub decreases-build_abs : goal.decreases-build_abs
decreases-build_abs l = 2 * raw_size l.body.now + 1
