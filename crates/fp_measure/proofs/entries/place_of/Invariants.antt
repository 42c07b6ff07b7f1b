use Rattle.std.proofs.Common.{◌≡◌, ◌++◌, take, drop}
use Rattle.fp_term.specs.Terms.{Tm}
use Rattle.fp_measure.specs.Sources.{put}
use Rattle.fp_measure.proofs.entries.place_of.Given as goal

abbrev pub invariant-loop-place : goal.invariant-loop-place
invariant-loop-place l = (term : Tm) → put l.ty term l.entries ≡ take l.place l.entries ++ put l.ty term (drop l.place l.entries)
