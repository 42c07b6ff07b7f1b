use Rattle.std.proofs.Common.{◌≡◌, ◌++◌, drop}
use Rattle.fp_spec.specs.Defining.{as_terms}
use Rattle.fp_spec.proofs.letters.as_terms.Given as goal

abbrev pub invariant-loop-var : goal.invariant-loop-var
invariant-loop-var l = l.terms ++ as_terms (drop l.var-index l.vars) ≡ as_terms l.vars
