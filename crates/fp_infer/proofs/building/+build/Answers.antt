use Rattle.fp_constrain.specs.Binding.{declared_in}
use Rattle.std.proofs.Common.{◌+◌, ap}
use Rattle.fp_raw.specs.Raws.{place}
use Rattle.fp_infer.specs.Builds.{around_of}
use Rattle.fp_infer.proofs.Built.{builds_of, builds_app, builds_abs}
use Rattle.fp_infer.proofs.building.+build.Goals as goal

pub build-returns-in_ok-term-in-Name-clause-builds :
    goal.build-returns-in_ok-term-in-Name-clause-builds
build-returns-in_ok-term-in-Name-clause-builds t c =
    builds_of (declared_in c.args.constants.now) c.args.cells.now c.args.written.now c.args.seen.now (around_of c.args.binders.now) c.args.step _ c.args.raw.now _ _ _ (rw c.in-Name.is at c.node.ensures) (c.in_ok-term-in-Name.ensures.builds (place c.args.raw.now))

pub build-returns-in_ok-term-in-App-clause-builds :
    goal.build-returns-in_ok-term-in-App-clause-builds
build-returns-in_ok-term-in-App-clause-builds t c =
    builds_of (declared_in c.args.constants.now) c.args.cells.now c.args.written.now c.args.seen.now (around_of c.args.binders.now) c.args.step _ c.args.raw.now _ _ _ (rw c.in-App.is at c.node.ensures) (c.in_ok-term-in-App.ensures.builds (place c.args.raw.now))

pub build-returns-in_ok-term-in-Abs-clause-builds :
    goal.build-returns-in_ok-term-in-Abs-clause-builds
build-returns-in_ok-term-in-Abs-clause-builds t c =
    builds_of (declared_in c.args.constants.now) c.args.cells.now c.args.written.now c.args.seen.now (around_of c.args.binders.now) c.args.step _ c.args.raw.now _ _ _ (rw c.in-Abs.is at c.node.ensures) (c.in_ok-term-in-Abs.ensures.builds c.in-Abs.ty (place c.args.raw.now))

pub build_abs-returns-clause-builds : goal.build_abs-returns-clause-builds
build_abs-returns-clause-builds t c = λ w p.
    let s = c.in_ok-ty.ensures.shows in
    builds_abs (declared_in c.args.constants.now) c.args.cells.now c.args.written.now c.args.seen.now (around_of c.args.binders.now) c.args.step c.args.name.now w c.args.body.now p _ _ _ _ _ _ _ _ (ap (λ k. c.args.step + k) c.size.ensures.is) s.1 s.2 c.in_ok-inside.ensures.builds c.in_ok-term.ensures

pub build_app-returns-clause-builds : goal.build_app-returns-clause-builds
build_app-returns-clause-builds t c = λ p.
    builds_app (declared_in c.args.constants.now) c.args.cells.now c.args.written.now c.args.seen.now (around_of c.args.binders.now) c.args.step c.args.fun.now c.args.arg.now p _ _ _ _ _ _ _ c.in_ok-first.ensures.builds (ap (λ k. c.args.step + k) c.size.ensures.is) c.in_ok-second.ensures.builds
    c.in_ok-term.ensures
