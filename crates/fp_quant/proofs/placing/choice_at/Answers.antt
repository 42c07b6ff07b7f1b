use Rattle.std.proofs.Common.{refl}
use Rattle.std.specs.Prelude.{codes}
use Rattle.fp_conclude.specs.Logic.{predicate_type}
use Rattle.fp_quant.proofs.Placed.{plain_is, choice_is}
use Rattle.fp_quant.proofs.placing.choice_at.Goals as goal

pub typed-requires : goal.typed-requires
typed-requires c = c.requires.0

pub with_terms-requires-clause-whole : goal.with_terms-requires-clause-whole
with_terms-requires-clause-whole c = rw c.in_ok-typed.ensures refl

pub with_terms-requires-clause-typed : goal.with_terms-requires-clause-typed
with_terms-requires-clause-typed c = rw c.in_ok-other.ensures (c.requires.1, (c.requires.1, tt))

pub returns : goal.returns
returns c =
    plain_is c.with_terms.result c.args.defs.now _ _ (choice_is c.args.ty.now c.args.predicate.now (codes "P") (predicate_type c.args.ty.now) c.args.predicate.now)
    (rw (c.in_ok-typed.ensures, c.in_ok-other.ensures) at c.with_terms.ensures)
