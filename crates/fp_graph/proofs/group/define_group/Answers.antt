use Rattle.fp_graph.specs.Each.{memory}
use Rattle.fp_graph.proofs.Growing.{err_of}
use Rattle.fp_graph.proofs.group.define_group.Goals as goal

pub returns-in_err-terms-clause-refused : goal.returns-in_err-terms-clause-refused
returns-in_err-terms-clause-refused c = err_of c.from_residual.result _ c.from_residual.ensures.1 memory

pub back_to-requires-clause-most : goal.back_to-requires-clause-most
back_to-requires-clause-most c = c.define_each.ensures.grown.most c.mark-before.result c.mark-before.ensures.mark
