use Rattle.std.proofs.lemmas.Result.{IfOk-weaker}
use Rattle.fp_syntax.proofs.Brief.{short_names}
use Rattle.fp_syntax.proofs.reader.read_file.Goals as goal

pub returns-clause-short : goal.returns-clause-short
returns-clause-short c =
    IfOk-weaker c.read_commands.result _ _
    (λ xs h. short_names c.args.bytes.now xs (record { tokens = c.args.tokens.now; lexed = c.requires.lexed; words = c.in_ok-words.words.items; spelled = c.in_ok-words.ensures; derived = rw c.deref.ensures.value at h }))
    c.read_commands.ensures
