use Rattle.std.proofs.Common.{refl}
use Rattle.fp_term.specs.Terms.{abs, closed}
use Rattle.fp_conclude.specs.Logic.{predicate_type, true_constant}
use Rattle.fp_kernel.specs.Definitions.{whole}
use Rattle.fp_quant.proofs.Universals.{left_made}
use Rattle.fp_quant.proofs.universal.gen_all_known.Goals as goal

pub universal-requires : goal.universal-requires
universal-requires c =
    let ty = c.args.ty.now in
    rw (c.left.ensures, c.concl.ensures.value, c.in_ok-always.ensures)
    (left_made c.args.defs.now c.in_ok-always.always c.args.a.now (predicate_type ty) (abs ty (closed 0 c.args.name.now ty c.args.a.now.concl)) (abs ty true_constant) c.in_ok-always.ensures c.concl.ensures.derived)

pub fold-requires : goal.fold-requires
fold-requires c = rw (c.in_ok-meaning.ensures, c.left.ensures, c.concl.ensures.value, c.in_ok-always.ensures) (refl, whole, refl)

pub returns : goal.returns
returns c = rw (c.in_ok-meaning.ensures, c.left.ensures, c.concl.ensures.value, c.in_ok-always.ensures) at c.fold.ensures
