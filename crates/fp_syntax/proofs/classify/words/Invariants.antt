use Rattle.std.proofs.Common.{drop}
use Rattle.fp_syntax.proofs.Wording.{GoesOn}
use Rattle.fp_syntax.proofs.classify.words.Given as goal

abbrev pub invariant-loop-token : goal.invariant-loop-token
invariant-loop-token l = GoesOn l.bytes l.is_quoted (drop l.token-index l.tokens) l.tokens l.words.items
