use Rattle.std.proofs.Common.{◌∙◌}
use Rattle.fp_proof.proofs.Made.{joins}
use Rattle.fp_proof.proofs.proof.Proof.conj.Goals as goal

pub put-requires : goal.put-requires
put-requires c =
    joins c.defs.result.now c.args.self.now c.in_ok-at.field-0.now c.in_ok-at-2.field-0.now c.in_ok-th.th _ c.in_ok-th.ensures
    (c.defs.ensures ∙ c.theory.ensures)
