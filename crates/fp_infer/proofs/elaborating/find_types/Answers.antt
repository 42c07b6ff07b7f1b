use Rattle.fp_constrain.proofs.Clashing.{clashes_read}
use Rattle.fp_infer.proofs.ClashOver.{clash_over}
use Rattle.fp_infer.proofs.elaborating.find_types.Goals as goal

pub returns-in_ok-number-in-None : goal.returns-in_ok-number-in-None
returns-in_ok-number-in-None c = (
  c.in_ok-number-in-None.number,
  clashes_read _ _ _ _ _ _ _ _ _ _ c.in_ok-equations.ensures c.as_slice-in-None.ensures.value c.in_ok-number-in-None.ensures,
  clash_over _ _ _ _ _ _ _ _ _ _ c.in_ok-equations.ensures c.as_slice-in-None.ensures.value c.in_ok-number-in-None.ensures,
  c.place_of.ensures,
)
