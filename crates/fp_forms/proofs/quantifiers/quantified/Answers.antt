use Rattle.fp_forms.proofs.Exact.{exact_parts}
use Rattle.fp_forms.proofs.quantifiers.quantified.Goals as goal

pub returns-clause-exact : goal.returns-clause-exact
returns-clause-exact c = exact_parts c.args.name.now c.args.term.now c.parts_of.result (λ p. p.0.now) (λ p. p.1.now) c.parts_of.ensures
