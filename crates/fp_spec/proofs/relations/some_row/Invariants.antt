use Rattle.std.proofs.Common.{◌≡◌, ◌++◌, drop, map}
use Rattle.fp_spec.specs.Relations.{row_part}
use Rattle.fp_spec.proofs.relations.some_row.Given as goal

abbrev pub invariant-loop-site : goal.invariant-loop-site
invariant-loop-site l = l.parts ++ map (row_part l.heads l.clauses l.h l.z l.x) (drop l.site-index l.sites) ≡ map (row_part l.heads l.clauses l.h l.z l.x) l.sites
