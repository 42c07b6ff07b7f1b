use Rattle.std.proofs.Common.{◌≡◌, [], ◌∷◌, ◌++◌}
use Rattle.fp_kernel.specs.Theorems.{plain}
use Rattle.fp_spec.specs.Statements.{psimp_of}
use Rattle.fp_partial.proofs.Listed.{rules_next, within_next, length_next}
use Rattle.fp_partial.proofs.psimp.prove_psimps.Goals as goal

-- one rule more
pub loop-index-preserved : goal.loop-index-preserved
loop-index-preserved c =
    let group = c.args.setting.now.group.now in
    let old = c.loop-index.rules in
    let new = c.push.new.self in
    let th = c.in_ok-prove_psimp.field-0 in
    let kept = c.loop-index.invariant in
    let e : new ≡ old ++ th ∷ [] = c.in_ok-push.ensures.ok in
    let n : c.in-Ok.number ≡ c.loop-index.index = c.in-Ok.ensures.1 in
    let h : th ≡ plain th.defs (psimp_of group c.loop-index.index) = rw (← n) c.in_ok-prove_psimp.ensures.states in
    record {
      same = rw c.in_ok-prove_psimp.ensures.same kept.same;
      within = within_next c.args.proof.now c.loop-index.proof old new th e kept.same kept.within c.in_ok-prove_psimp.ensures.within;
      states = rules_next group old new th c.loop-index.index e kept.number kept.states h;
      number = length_next old new th c.loop-index.index e kept.number;
    }
