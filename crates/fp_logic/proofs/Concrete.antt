-- Terms of the start are well typed over any definitions.
use Rattle.std.proofs.Common.{◌≡◌, List, []}
use Rattle.std.specs.Prelude.{Some, None}
use Rattle.fp_term.specs.Types.{Typ}
use Rattle.fp_term.specs.Terms.{Tm}
use Rattle.fp_term.specs.Typing.{type_under}
use Rattle.fp_term.specs.Signatures.{IsWellTyped, unknown_in}
use Rattle.fp_term.proofs.Known.{known}
use Rattle.fp_kernel.specs.Definitions.{Def}
use Rattle.fp_kernel.specs.Start.{signature_of}
use Rattle.fp_kernel.proofs.Growing.{from_start, over_grows}

pub at_start : (defs : List Def) (t : Tm) (s : Typ) → type_under [] t ≡ Some s → unknown_in (signature_of []) t ≡ None → IsWellTyped (signature_of defs) t s
at_start defs t s e f = record { typed = e; over = over_grows (signature_of []) (signature_of defs) (from_start defs) t (known (signature_of []) t f) }
