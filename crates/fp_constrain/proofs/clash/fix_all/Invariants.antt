use Rattle.std.proofs.Common.{◌≡◌, drop}
use Rattle.fp_constrain.specs.Clash.{Fixes}
use Rattle.fp_constrain.proofs.clash.fix_all.Given as goal

abbrev pub invariant-loop-pair : goal.invariant-loop-pair
invariant-loop-pair l = record {
  step : l.draft.step ≡ 0;
  fixes : Fixes l.names l.given (drop l.pair-index l.given) l.initial.draft.next l.initial.draft.facts.items l.draft.next l.draft.facts.items;
}
