use Rattle.std.proofs.Common.{◌∙◌, ◌++◌, [], ◌∷◌, ap}
use Rattle.fp_term.specs.declared.signature.Signature.{Signature}
use Rattle.fp_kernel.proofs.new_type.with_type.Goals as goal

pub returns-clause-types : goal.returns-clause-types
returns-clause-types c =
    c.in_ok-push.ensures.ok ∙ (rw c.in_ok-copy.ensures (ap (λ (s : Signature). s.types ++ (c.args.name.now, c.args.arity) ∷ []) c.in_ok-more.ensures))
