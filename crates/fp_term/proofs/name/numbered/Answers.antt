use Rattle.std.proofs.Common.{refl}
use Rattle.fp_term.proofs.NumberedNames.{numbered_is_name}
use Rattle.fp_term.proofs.name.numbered.Goals as goal

pub of-requires : goal.of-requires
of-requires c =
    rw (c.as_slice-2.ensures.value, c.in_ok-bytes.ensures, c.as_slice.ensures.value, numbered_is_name c.args.stem.now c.args.number c.as_slice.ensures.form c.requires c.ranges.number.fits) refl
