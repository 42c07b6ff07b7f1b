use Rattle.std.proofs.Common.{◌<◌, arith}
use Rattle.fp_term.specs.Types.{Typ, variable, applied}
use Rattle.fp_unify.specs.Nodes.{type_nodes}
use Rattle.fp_unify.proofs.counting.+count.Goals as goal

some_nodes : (t : Typ) → 0 < type_nodes t
some_nodes (variable a) = omega arith
some_nodes (applied a ts) = omega arith

pub nodes_within-returns-then-room-eq0-clause-nodes :
    goal.nodes_within-returns-then-room-eq0-clause-nodes
nodes_within-returns-then-room-eq0-clause-nodes t c = λ w s. omega (arith, some_nodes (w c.args.at), c.if-room-eq0.true)
