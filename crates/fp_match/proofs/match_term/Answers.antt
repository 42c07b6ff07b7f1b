use Rattle.std.proofs.lemmas.Bool.Decides.{when_true}
use Rattle.fp_match.proofs.Matching.{matched_instance}
use Rattle.fp_match.proofs.Own.{matched_own, matched_first}
use Rattle.fp_match.proofs.match_term.Goals as goal

pub returns-then-branch : goal.returns-then-branch
returns-then-branch c =
    let found = when_true _ _ c.if-branch.true c.in_ok-match_onto.ensures in
    let matched = rw c.new-inst.ensures at found in
    let new = c.match_onto.new.inst in
    record {
      exact = matched_instance c.args.pattern.now c.args.term.now new matched;
      own = matched_own c.args.pattern.now c.args.term.now new matched;
      first = matched_first c.args.pattern.now c.args.term.now new matched;
    }
