use Rattle.std.proofs.Common.{refl}
use Rattle.fp_quant.proofs.Placed.{plain_is, introduction_is}
use Rattle.fp_quant.proofs.placing.introduction_at.Goals as goal

pub typed-requires : goal.typed-requires
typed-requires c = c.requires.predicate.0

pub with_terms-requires-clause-whole : goal.with_terms-requires-clause-whole
with_terms-requires-clause-whole c = rw c.in_ok-typed.ensures refl

pub with_terms-requires-clause-typed : goal.with_terms-requires-clause-typed
with_terms-requires-clause-typed c = rw c.in_ok-other.ensures (c.requires.predicate.1, (c.requires.typed, tt))

pub returns : goal.returns
returns c =
    plain_is c.with_terms.result c.args.defs.now _ _ (introduction_is c.args.ty.now c.args.predicate.now c.args.term.now)
    (rw (c.in_ok-typed.ensures, c.in_ok-other.ensures) at c.with_terms.ensures)
