use Rattle.fp_quant.proofs.Universals.{always_asks}
use Rattle.fp_quant.proofs.universal.true_at.Goals as goal

pub refl_known-requires : goal.refl_known-requires
refl_known-requires c = (c.args.ty.now, c.requires.typed)

pub unfold-requires : goal.unfold-requires
unfold-requires c = rw (c.in_ok-always.ensures, c.in_ok-own.ensures c.args.ty.now c.requires.typed.typed) (always_asks c.args.defs.now c.args.a.now c.args.ty.now c.args.predicate.now c.args.term.now)

pub returns : goal.returns
returns c = rw (c.in_ok-always.ensures, c.in_ok-own.ensures c.args.ty.now c.requires.typed.typed) at c.unfold.ensures
