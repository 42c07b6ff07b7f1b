use Rattle.fp_conclude.specs.Logic.{truth_type, predicate_type}
use Rattle.fp_quant.proofs.Subjects.{from_known}
use Rattle.fp_quant.proofs.Universals.{universal_asks}
use Rattle.fp_quant.proofs.universal.universal.Goals as goal

pub universal_schema-requires : goal.universal_schema-requires
universal_schema-requires c = from_known c.args.defs.now c.args.ty.now truth_type c.args.predicate.now c.requires

pub refl_known-requires : goal.refl_known-requires
refl_known-requires c = (predicate_type c.args.ty.now, c.requires)

pub unfold-requires : goal.unfold-requires
unfold-requires c = rw (c.in_ok-schema.ensures, c.in_ok-own.ensures (predicate_type c.args.ty.now) c.requires.typed) (universal_asks c.args.defs.now c.args.ty.now c.args.predicate.now)

pub returns : goal.returns
returns c = rw (c.in_ok-schema.ensures, c.in_ok-own.ensures (predicate_type c.args.ty.now) c.requires.typed) at c.unfold.ensures
