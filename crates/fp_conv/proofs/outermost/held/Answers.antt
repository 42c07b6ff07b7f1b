use Rattle.fp_conv.proofs.Given.{within}
use Rattle.fp_conv.proofs.Carried.{variable_typed, alike_within, held_given, held_is}
use Rattle.fp_conv.proofs.outermost.held.Goals as goal

pub refl_known-requires : goal.refl_known-requires
refl_known-requires c = variable_typed c.args.defs.now c.args.name.now c.args.variable.now c.requires.variable

pub antisym_known-requires-clause-second_within : goal.antisym_known-requires-clause-second_within
antisym_known-requires-clause-second_within c = within c.in_ok-own.ensures

pub eq_mp_known-requires-clause-first_within : goal.eq_mp_known-requires-clause-first_within
eq_mp_known-requires-clause-first_within c =
    alike_within c.args.defs.now c.args.eq.now c.args.name.now c.args.variable.now c.requires.variable c.requires.apart c.in_ok-own.own c.in_ok-alike.alike c.in_ok-own.ensures c.in_ok-alike.ensures

pub eq_mp_known-requires-clause-given : goal.eq_mp_known-requires-clause-given
eq_mp_known-requires-clause-given c =
    held_given c.args.defs.now c.args.eq.now c.args.name.now c.args.variable.now c.requires.variable c.requires.apart c.in_ok-own.own c.in_ok-alike.alike c.in_ok-own.ensures c.in_ok-alike.ensures

pub returns : goal.returns
returns c =
    held_is c.args.defs.now c.args.eq.now c.args.name.now c.args.variable.now c.requires.variable c.requires.apart c.in_ok-own.own c.in_ok-alike.alike c.eq_mp_known.result c.in_ok-own.ensures c.in_ok-alike.ensures
    c.eq_mp_known.ensures
