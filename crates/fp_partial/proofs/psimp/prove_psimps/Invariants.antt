use Rattle.std.proofs.Common.{◌≡◌, length}
use Rattle.fp_retrace.specs.Standing.{AreWithin}
use Rattle.fp_partial.specs.Rules.{ArePartialRules}
use Rattle.fp_partial.proofs.psimp.prove_psimps.Given as goal

abbrev pub invariant-loop-index : goal.invariant-loop-index
invariant-loop-index l = record {
  same : l.proof ≡ l.fn.proof;
  within : AreWithin l.fn.proof l.rules;
  states : ArePartialRules l.setting.group.now 0 l.rules;
  number : length l.rules ≡ l.index;
}
