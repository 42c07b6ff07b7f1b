use Rattle.std.proofs.Common.{[]}
use Rattle.fp_term.specs.Variables.{type_names_in}
use Rattle.fp_kernel.specs.Start.{distinct_after}
use Rattle.fp_kernel.proofs.NewTypes.{typed_predicate, abs_rep_derived, rep_abs_derived}
use Rattle.fp_kernel.proofs.defs.Defs.add_type.Goals as goal

pub describe-requires : goal.describe-requires
describe-requires c =
    typed_predicate c.args.self.now c.args.name.now (distinct_after [] (type_names_in c.args.predicate.now)) c.args.predicate.now c.args.inhabitant.now
    c.args.abs.now c.args.rep.now c.requires

pub with_new_type-requires-clause-new : goal.with_new_type-requires-clause-new
with_new_type-requires-clause-new c = rw c.in_ok-params.ensures c.requires

pub type_theorems-requires-clause-abs_rep : goal.type_theorems-requires-clause-abs_rep
type_theorems-requires-clause-abs_rep c =
    rw (c.in_ok-list.ensures, c.in_ok-made.ensures.abs_rep, c.as_slice.ensures, c.in_ok-params.ensures)
    (abs_rep_derived c.args.self.now c.args.name.now (distinct_after [] (type_names_in c.args.predicate.now)) c.args.predicate.now c.args.inhabitant.now
    c.args.abs.now c.args.rep.now c.requires)

pub type_theorems-requires-clause-rep_abs : goal.type_theorems-requires-clause-rep_abs
type_theorems-requires-clause-rep_abs c =
    rw (c.in_ok-list.ensures, c.in_ok-made.ensures.rep_abs, c.as_slice.ensures, c.in_ok-params.ensures)
    (rep_abs_derived c.args.self.now c.args.name.now (distinct_after [] (type_names_in c.args.predicate.now)) c.args.predicate.now c.args.inhabitant.now
    c.args.abs.now c.args.rep.now c.requires)
