use Rattle.fp_kernel.specs.Start.{signature_of}
use Rattle.fp_admit.specs.Admitted.{IsTyped}
use Rattle.fp_admit.proofs.Each.{pushed}
use Rattle.fp_admit.proofs.typing.typed_each.Goals as goal

pub loop-raw-preserved : goal.loop-raw-preserved
loop-raw-preserved c =
    pushed (IsTyped (signature_of c.args.theory.now.defs) c.args.exact.now) c.args.clauses.now c.loop-raw.terms c.push.new.self c.loop-raw.raw-index c.raw-item.result c.in_ok-typed_clause.field-0
    c.in_ok-push.ensures.ok c.raw-item.is c.loop-raw-test.true c.loop-raw.invariant c.in_ok-typed_clause.ensures
