use Rattle.std.proofs.Common.{[], None, Err, subst}
use Rattle.fp_term.specs.declared.signature.Signature.{Signature}
use Rattle.fp_infer.specs.Elaborated as Elaborated
use Rattle.fp_kernel.specs.Start.{signature_of}
use Rattle.fp_command.specs.Outcome.{ExplainsTerm, FailsTerm}
use Rattle.fp_command.proofs.Sound.{sound_alone}
use Rattle.fp_command.proofs.Telling.{shows_then}
use Rattle.fp_command.proofs.terms.elaborated.Goals as goal

pub elaborate-requires : goal.elaborate-requires
elaborate-requires c = rw c.signature.ensures.exact (sound_alone (signature_of c.args.theory.now.defs) c.signature.ensures.sound)

pub returns-in-Ok-clause-typed : goal.returns-in-Ok-clause-typed
returns-in-Ok-clause-typed c = rw c.signature.ensures.exact at c.in-Ok.ensures.answers

pub returns-in-Err-clause-refused : goal.returns-in-Err-clause-refused
returns-in-Err-clause-refused c =
    shows_then (ExplainsTerm c.in-Err.fault) (FailsTerm c.args.theory.now c.args.raw.now) c.of_term.result c.of_term.ensures
    (λ at reason e. (c.in-Err.fault, subst (λ (s : Signature). Elaborated.Answers s [] [] None c.args.raw.now (Err c.in-Err.fault)) c.signature.ensures.exact c.in-Err.ensures.answers, e))
