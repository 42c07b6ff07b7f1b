use Rattle.fp_typed_terms.specs.SmallSignature.{DeclaresTypes}
use Rattle.fp_typed_terms.proofs.signature.with_constants.Given as goal

abbrev pub invariant-loop-text : goal.invariant-loop-text
invariant-loop-text l = DeclaresTypes l.signature
