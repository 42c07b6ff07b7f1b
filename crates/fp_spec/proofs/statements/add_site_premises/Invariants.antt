use Rattle.std.proofs.Common.{◌≡◌, ◌++◌, drop}
use Rattle.fp_spec.specs.Statements.{site_premises}
use Rattle.fp_spec.proofs.statements.add_site_premises.Given as goal

abbrev pub invariant-loop-site : goal.invariant-loop-site
invariant-loop-site l = l.premises ++ site_premises l.predicates l.number (drop l.site-index l.sites) ≡ l.initial.premises ++ site_premises l.predicates l.number l.sites
