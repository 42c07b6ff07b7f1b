use Rattle.fp_kernel.specs.Start.{signature_of}
use Rattle.fp_calls.proofs.Found.{found_typed}
use Rattle.fp_calls.proofs.calls.beta_norm_of.Goals as goal

pub beta_norm-requires : goal.beta_norm-requires
beta_norm-requires c =
    found_typed (signature_of c.args.defs.now) c.args.term.now c.in_ok-typed_over.field-0 (rw c.signature.ensures at c.in_ok-typed_over.ensures)
