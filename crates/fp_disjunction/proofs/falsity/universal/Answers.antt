use Rattle.fp_conclude.specs.Logic.{truth_type, predicate_type}
use Rattle.fp_disjunction.proofs.False.{universal_asks}
use Rattle.fp_disjunction.proofs.falsity.universal.Goals as goal

pub refl_known-requires : goal.refl_known-requires
refl_known-requires c = (predicate_type truth_type, c.requires)

pub unfold-requires : goal.unfold-requires
unfold-requires c = rw (c.in_ok-schema.ensures, c.in_ok-own.ensures (predicate_type truth_type) c.requires.typed) (universal_asks c.args.defs.now c.args.predicate.now)

pub returns : goal.returns
returns c = rw (c.in_ok-schema.ensures, c.in_ok-own.ensures (predicate_type truth_type) c.requires.typed) at c.unfold.ensures
