use Rattle.std.proofs.Common.{◌≡◌, ◌++◌, drop}
use Rattle.fp_cong.specs.Rows.{all_names}
use Rattle.fp_spec.proofs.helpers.add_all_names.Given as goal

abbrev pub invariant-loop-term : goal.invariant-loop-term
invariant-loop-term l = l.names ++ all_names (drop l.term-index l.terms) ≡ l.initial.names ++ all_names l.terms
