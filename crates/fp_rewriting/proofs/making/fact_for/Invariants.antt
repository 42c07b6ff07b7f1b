use Rattle.std.proofs.Common.{◌≡◌, drop}
use Rattle.fp_rewriting.specs.Simplification.{fact_for}
use Rattle.fp_rewriting.proofs.making.fact_for.Given as goal

abbrev pub invariant-loop-fact : goal.invariant-loop-fact
invariant-loop-fact l = fact_for l.facts l.term ≡ fact_for (drop l.fact-index l.facts) l.term
