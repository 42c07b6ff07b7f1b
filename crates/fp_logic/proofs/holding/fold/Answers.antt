use Rattle.fp_logic.proofs.Turning.{fold_within, fold_shape, fold_asks}
use Rattle.fp_logic.proofs.holding.fold.Goals as goal

pub sym_known-requires-clause-within : goal.sym_known-requires-clause-within
sym_known-requires-clause-within c = fold_within c.args.defs.now c.args.equation.now c.args.th.now c.requires

pub sym_known-requires-clause-equation : goal.sym_known-requires-clause-equation
sym_known-requires-clause-equation c = rw (c.left.ensures, c.concl.ensures.value, c.in_ok-ty.ensures) (fold_shape c.args.defs.now c.args.equation.now c.args.th.now c.requires)

pub convert-requires : goal.convert-requires
convert-requires c = rw (c.in_ok-swapped.ensures, c.left.ensures, c.concl.ensures.value, c.in_ok-ty.ensures) (fold_asks c.args.defs.now c.args.equation.now c.args.th.now c.requires)

pub returns : goal.returns
returns c = rw (c.in_ok-swapped.ensures, c.left.ensures, c.concl.ensures.value) at c.convert.ensures
