use Rattle.std.proofs.Common.{◌≡◌, refl, subst}
use Rattle.std.specs.Prelude.{IfOk}
use Rattle.fp_term.specs.Terms.{Tm, free, opened}
use Rattle.fp_conclude.specs.Logic.{for_all}
use Rattle.fp_kernel.specs.Definitions.{whole}
use Rattle.fp_conclude.specs.Shapes.{body_in}
use Rattle.fp_logic.specs.Steps.{without_one}
use Rattle.fp_quant.proofs.Reached.{variable_typed, closed_implied}
use Rattle.fp_quant.proofs.witness.each_implied.Goals as goal

pub applied-requires-clause-abstraction : goal.applied-requires-clause-abstraction
applied-requires-clause-abstraction c = c.requires.abstraction

pub applied-requires-clause-typed : goal.applied-requires-clause-typed
applied-requires-clause-typed c = (c.args.ty.now, c.requires.predicate, rw c.in_ok-variable.ensures (variable_typed c.args.defs.now c.args.name.now c.args.ty.now c.args.predicate.now c.requires.predicate))

pub implied-requires-clause-equation : goal.implied-requires-clause-equation
implied-requires-clause-equation c = rw c.in_ok-equation.ensures refl

pub gen_all_known-requires-clause-within : goal.gen_all_known-requires-clause-within
gen_all_known-requires-clause-within c = rw c.in_ok-implied.ensures whole

pub gen_all_known-requires-clause-known : goal.gen_all_known-requires-clause-known
gen_all_known-requires-clause-known c = c.requires.predicate.0

pub gen_all_known-requires-clause-apart : goal.gen_all_known-requires-clause-apart
gen_all_known-requires-clause-apart c = rw (c.in_ok-implied.ensures, c.in_ok-equation.ensures, c.in_ok-variable.ensures) c.requires.apart

pub returns : goal.returns
returns c =
    let reduced = opened 0 (free c.args.name.now c.args.ty.now) (body_in c.args.predicate.now) in
    subst (λ (x : Tm). IfOk c.gen_all_known.result (λ th. th ≡ without_one c.args.defs.now reduced c.args.b.now (for_all c.args.ty.now x)))
    (closed_implied c.args.name.now c.args.ty.now c.args.predicate.now c.args.b.now.concl c.requires.predicate_apart c.requires.concl_apart)
    (rw (c.in_ok-implied.ensures, c.in_ok-equation.ensures, c.in_ok-variable.ensures) at c.gen_all_known.ensures)
