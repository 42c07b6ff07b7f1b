use Rattle.std.proofs.Common.{◌∙◌, sym, ap}
use Rattle.fp_full.specs.Texts.{of_statement}
use Rattle.fp_full.specs.Views.{parsed_of}
use Rattle.fp_full.proofs.Answering.{read_as, only_memory}
use Rattle.fp_full.proofs.full.read_full.Goals as goal

pub returns-in-Ok-Statement-clause-only : goal.returns-in-Ok-Statement-clause-only
returns-in-Ok-Statement-clause-only c = λ p e t l. rw c.from_vec.ensures (sym (ap parsed_of c.in-Ok-Statement.field-0-is) ∙ read_as of_statement c.args.bytes.now c.in-Ok-Statement.field-0 c.in-Ok-Statement.ensures p e t)

pub returns-in-Err-clause-only : goal.returns-in-Err-clause-only
returns-in-Err-clause-only c = λ p e t l. only_memory of_statement c.args.bytes.now c.in-Err.fault c.in-Err.ensures p e t l
