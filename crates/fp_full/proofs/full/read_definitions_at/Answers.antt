use Rattle.std.proofs.Common.{◌∙◌, sym, ap}
use Rattle.fp_full.specs.Texts.{of_file}
use Rattle.fp_full.specs.Views.{parsed_of}
use Rattle.fp_full.proofs.Answering.{read_as, only_memory}
use Rattle.fp_full.proofs.full.read_definitions_at.Goals as goal

pub returns-in-Ok-Definitions-clause-only : goal.returns-in-Ok-Definitions-clause-only
returns-in-Ok-Definitions-clause-only c = λ p e t l. (sym (ap parsed_of c.in-Ok-Definitions.field-0-is) ∙ read_as of_file c.args.bytes.now c.in-Ok-Definitions.field-0 c.in-Ok-Definitions.ensures p e t)

pub returns-in-Err-clause-only : goal.returns-in-Err-clause-only
returns-in-Err-clause-only c = λ p e t l. only_memory of_file c.args.bytes.now c.in-Err.fault c.in-Err.ensures p e t l
