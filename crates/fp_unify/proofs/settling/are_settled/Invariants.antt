use Rattle.std.proofs.Common.{◌≡◌, drop}
use Rattle.std.specs.List.{list_all}
use Rattle.fp_unify.specs.Settled.{flag}
use Rattle.fp_unify.proofs.settling.are_settled.Given as goal

abbrev pub invariant-loop-at : goal.invariant-loop-at
invariant-loop-at l = list_all (flag l.settled) l.all ≡ list_all (flag l.settled) (drop l.at-index l.all)
