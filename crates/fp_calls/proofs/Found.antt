-- What was found to be well typed.
use Rattle.std.specs.Prelude.{◌≡◌}
use Rattle.fp_term.specs.Types.{Typ}
use Rattle.fp_term.specs.Terms.{Tm}
use Rattle.fp_term.specs.declared.signature.Signature.{Signature}
use Rattle.fp_conclude.specs.Checks.{typed_over}
use Rattle.fp_conclude.specs.Outcomes.{gives}
use Rattle.fp_conclude.proofs.Checked.{well_typed}
use Rattle.fp_conv.specs.Equations.{IsTyped}

pub found_typed : (g : Signature) (t : Tm) (s : Typ) → typed_over g t ≡ gives s → IsTyped g t
found_typed g t s e = record { type = s; well = well_typed g t s e }
