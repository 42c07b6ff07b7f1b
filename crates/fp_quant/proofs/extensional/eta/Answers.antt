use Rattle.fp_kernel.specs.Definitions.{whole}
use Rattle.fp_quant.proofs.Functions.{eta_put}
use Rattle.fp_quant.proofs.Placed.{plain_is}
use Rattle.fp_quant.proofs.Subjects.{from_known, to_known}
use Rattle.fp_quant.proofs.extensional.eta.Goals as goal

pub eta_schema-requires-clause-first : goal.eta_schema-requires-clause-first
eta_schema-requires-clause-first c = from_known c.args.defs.now c.args.from.now c.args.to.now c.args.function.now c.requires

pub eta_schema-requires-clause-second : goal.eta_schema-requires-clause-second
eta_schema-requires-clause-second c = to_known c.args.defs.now c.args.from.now c.args.to.now c.args.function.now c.requires

pub inst_known-requires : goal.inst_known-requires
inst_known-requires c = rw (c.in_ok-schema.ensures, c.in_ok-for_t.ensures) (whole, (c.requires, tt))

pub returns : goal.returns
returns c =
    plain_is c.inst_known.result c.args.defs.now _ _ (eta_put c.args.from.now c.args.to.now c.args.function.now) (rw (c.in_ok-schema.ensures, c.in_ok-for_t.ensures) at c.inst_known.ensures)
