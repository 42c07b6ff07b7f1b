use Rattle.std.proofs.Common.{◌≡◌, drop, []}
use Rattle.fp_rewriting.specs.Facts.{names_of}
use Rattle.fp_rewriting.proofs.guards.names_of.Given as goal

abbrev pub invariant-loop-term : goal.invariant-loop-term
invariant-loop-term l = names_of [] l.terms ≡ names_of l.names (drop l.term-index l.terms)
