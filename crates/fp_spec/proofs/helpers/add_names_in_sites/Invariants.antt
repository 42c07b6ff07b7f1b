use Rattle.std.proofs.Common.{◌≡◌, ◌++◌, drop}
use Rattle.fp_spec.specs.Helpers.{names_in_sites}
use Rattle.fp_spec.proofs.helpers.add_names_in_sites.Given as goal

abbrev pub invariant-loop-site : goal.invariant-loop-site
invariant-loop-site l = l.names ++ names_in_sites (drop l.site-index l.sites) ≡ l.initial.names ++ names_in_sites l.sites
