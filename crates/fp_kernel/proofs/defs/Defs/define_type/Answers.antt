use Rattle.std.proofs.Common.{[]}
use Rattle.fp_term.specs.Variables.{type_names_in}
use Rattle.fp_kernel.specs.Start.{distinct_after}
use Rattle.fp_kernel.proofs.NewTypes.{type_made_new}
use Rattle.fp_kernel.proofs.defs.Defs.define_type.Goals as goal

pub add_type-requires : goal.add_type-requires
add_type-requires c =
    type_made_new c.args.self.now c.args.name.now c.args.abs.now c.args.rep.now c.args.inhabited.now (distinct_after [] (type_names_in c.in_ok-parts.parts.0.now))
    c.in_ok-parts.parts.0.now c.in_ok-parts.parts.1.now c.requires c.in_ok-parts.ensures.derived c.in_ok-parts.ensures.outcome

pub returns-clause-ok : goal.returns-clause-ok
returns-clause-ok c = record {
  params = distinct_after [] (type_names_in c.in_ok-parts.parts.0.now);
  predicate = c.in_ok-parts.parts.0.now;
  inhabitant = c.in_ok-parts.parts.1.now;
  outcome = c.in_ok-parts.ensures.outcome;
  list = c.in_ok-add_type.ensures.list;
  first_theorem = c.in_ok-add_type.ensures.abs_rep;
  second_theorem = c.in_ok-add_type.ensures.rep_abs;
}
