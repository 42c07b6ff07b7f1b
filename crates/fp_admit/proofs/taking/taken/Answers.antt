use Rattle.fp_admit.specs.Admitted.{IsClauseOf}
use Rattle.fp_admit.proofs.Each.{pushed}
use Rattle.fp_admit.proofs.taking.taken.Goals as goal

pub loop-term-preserved : goal.loop-term-preserved
loop-term-preserved c =
    let is : IsClauseOf c.args.exact.now c.term-item.result c.in-Some.clause = rw c.in-Some.is at c.in_ok-clause.ensures.is in (
      pushed (IsClauseOf c.args.exact.now) c.args.terms.now c.loop-term.clauses c.add_clause.new.clauses c.loop-term.term-index c.term-item.result c.in-Some.clause
          c.in_ok-add_clause-in-Some.ensures.added c.term-item.is c.loop-term-test.true c.loop-term.invariant.0 is,
      c.in_ok-add_clause-in-Some.ensures.below,
    )
