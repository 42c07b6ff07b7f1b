use Rattle.std.specs.Prelude.{[]}
use Rattle.fp_conclude.specs.Outcomes.{gives}
use Rattle.fp_conclude.specs.Axioms.{connective_numbered}
use Rattle.fp_texts.proofs.Listed.{answered}
use Rattle.fp_texts.proofs.over.connective.Goals as goal

pub returns : goal.returns
returns c = answered c.args.defs.now [] [] (gives (connective_numbered c.args.number)) c.connective.result c.connective.ensures
