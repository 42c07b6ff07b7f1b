use Rattle.std.proofs.Common.{rules, ◌∙◌, List, ◌++◌, drop, ap, sym}
use Rattle.std.specs.Prelude.{ℕ}
use Rattle.std.proofs.lemmas.List.{append-nil}
use Rattle.fp_report.proofs.Measured.{none_left}
use Rattle.fp_report.proofs.matrix.push_all_measures.Goals as goal

pub returns-else-at-measures : goal.returns-else-at-measures
returns-else-at-measures c =
    let e = none_left c.args.full c.loop-at.at (drop c.loop-at.at c.args.functions.now) c.args.measures.now (search rules) in
    sym (append-nil c.loop-at.text.items) ∙ ap (λ (more : List ℕ). c.loop-at.text.items ++ more) (sym e) ∙ c.loop-at.invariant.0
