use Rattle.fp_outcome.proofs.Showing.{all_shown}
use Rattle.fp_outcome.proofs.parts.parts_of.Goals as goal

pub returns-clause-shown : goal.returns-clause-shown
returns-clause-shown c = all_shown c.parts.result c.args.measures.now c.as_slice.result.now c.parts.ensures c.requires
