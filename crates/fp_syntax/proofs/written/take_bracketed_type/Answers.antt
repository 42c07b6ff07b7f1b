use Rattle.std.proofs.lemmas.Result.{IfOk-weaker}
use Rattle.fp_commands.specs.Grammar.{enclosed}
use Rattle.fp_syntax.proofs.written.take_bracketed_type.Goals as goal

pub returns-clause-reads : goal.returns-clause-reads
returns-clause-reads c = IfOk-weaker c.type_before.result _ _ (λ _ h. enclosed c.in_ok-take_sign.ensures.reads h) c.type_before.ensures.reads
