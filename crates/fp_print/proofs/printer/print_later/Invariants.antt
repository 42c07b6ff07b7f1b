use Rattle.std.proofs.Common.{◌≡◌, ◌++◌, drop}
use Rattle.fp_print.specs.Numbers.{AllHaveOnly}
use Rattle.fp_print.specs.Texts.{later_hypotheses}
use Rattle.fp_print.proofs.printer.print_later.Given as goal

abbrev pub invariant-loop-hyp : goal.invariant-loop-hyp
invariant-loop-hyp l = AllHaveOnly 0 (drop l.hyp-index l.hyps)
    × (l.out.items ++ later_hypotheses l.names (drop l.hyp-index l.hyps) ≡ l.initial.out.items ++ later_hypotheses l.names l.hyps)
