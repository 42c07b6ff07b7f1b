use Rattle.std.proofs.Common.{subst}
use Rattle.fp_conclude.specs.Outcomes.{Outcome, Answers}
use Rattle.fp_kernel.specs.Theorems.{Theorem}
use Rattle.fp_logic.proofs.Applied.{own_within, ap_arg_is}
use Rattle.fp_logic.proofs.equality.ap_arg.Goals as goal

pub mk_comb-requires-clause-first_within : goal.mk_comb-requires-clause-first_within
mk_comb-requires-clause-first_within c = c.requires

pub mk_comb-requires-clause-second_within : goal.mk_comb-requires-clause-second_within
mk_comb-requires-clause-second_within c = own_within c.args.defs.now c.args.term.now c.in_ok-own.own c.in_ok-own.ensures

pub returns : goal.returns
returns c = subst (λ (o : Outcome Theorem). Answers c.mk_comb.result o) (ap_arg_is c.args.defs.now c.args.term.now c.in_ok-own.own c.args.a.now c.in_ok-own.ensures) c.mk_comb.ensures
