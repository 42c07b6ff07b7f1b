use Rattle.std.proofs.Common.{◌∙◌, sym, ap}
use Rattle.fp_rewriting.specs.Reading.{rule_of}
use Rattle.fp_theory.proofs.Reading.{reads_simp}
use Rattle.fp_theory.proofs.theory.Theory.read_simp.Goals as goal

pub returns : goal.returns
returns c =
    reads_simp c.args.self.now.named c.args.name.now c.in-Some.theorem.now c.in_ok-rule.rule c.unless_none.result (sym c.in-Some.ensures.exact)
    (c.in_ok-rule.ensures.is ∙ ap (rule_of c.args.name.now) c.concl.ensures.value) c.unless_none.ensures
