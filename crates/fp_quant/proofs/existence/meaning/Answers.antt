use Rattle.std.proofs.Common.{refl}
use Rattle.fp_conclude.specs.Logic.{alpha, predicate_type}
use Rattle.fp_kernel.specs.Definitions.{whole}
use Rattle.fp_logic.proofs.Concrete.{at_start}
use Rattle.fp_forms.specs.Existence.{predicate_variable}
use Rattle.fp_quant.proofs.existence.meaning.Goals as goal

pub refl_known-requires : goal.refl_known-requires
refl_known-requires c = (predicate_type alpha, rw c.in_ok-predicate.ensures (at_start c.args.defs.now predicate_variable (predicate_type alpha) refl refl))

pub unfold-requires : goal.unfold-requires
unfold-requires c = rw (c.in_ok-meaning.ensures, c.in_ok-own.ensures (predicate_type alpha) (rw c.in_ok-predicate.ensures refl), c.in_ok-predicate.ensures) ((whole, whole, refl, refl), refl)

pub returns : goal.returns
returns c = rw (c.in_ok-meaning.ensures, c.in_ok-own.ensures (predicate_type alpha) (rw c.in_ok-predicate.ensures refl), c.in_ok-predicate.ensures) at c.unfold.ensures
