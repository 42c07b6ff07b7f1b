use Rattle.fp_term.proofs.Equal.{term_eq-decides}
use Rattle.fp_term.proofs.term.same.Goals as goal

pub returns-clause-equal : goal.returns-clause-equal
returns-clause-equal c = rw c.are_equal.ensures (term_eq-decides c.args.a.now c.args.b.now)
