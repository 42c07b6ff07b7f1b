-- What a closed board shows.
use Rattle.std.proofs.Common.{ℕ, ◌<◌, List}
use Rattle.atomic_table.specs.Table.{Final, Seen}
use Rattle.fp_board_rule.specs.declared.plan.Plan.{Plan}
use Rattle.fp_board_rule.specs.declared.view.View.{View}
use Rattle.fp_board_rule.specs.Words.{states_of}
use Rattle.fp_board_rule.specs.Rule.{count_of, Kept, Fits}
use Rattle.fp_board_rule.specs.Steps.{IsDone}
use Rattle.fp_board_rule.proofs.Keeps.{Rule}
use Rattle.fp_board_rule.proofs.Ends.{closed_cell, closed_state, knows_states, one_result}
use Rattle.fp_board.specs.Closing.{IsClosedBoard}

pub closes : (plan : Plan) (ws xs : List ℕ) (id : ℕ) (v : View) → Final (Seen (Rule plan) id v) ws xs → 0 < v.number → ((k : ℕ) → k < count_of plan → IsDone v k) → IsClosedBoard plan v.known
closes plan ws xs id v end pos all = let s = end.0 in let r : Kept plan s.words s.views = end.1.0 in let f : Fits plan s.words v = r.fits id v end.1.1 pos in record {
  right = r.right;
  long = f.known_long;
  cells = λ k near. closed_cell plan s.words s.views v r f all k near;
  played = λ full are. let q = r.reached full are in record {
    events = q.events;
    states = states_of (count_of plan) s.words;
    plays = q.plays;
    settled_cells = knows_states plan s.words s.views v r f all;
    all = λ k l. closed_state plan s.words s.views v r f all k l;
  };
  result = λ full are other fills. one_result plan s.words s.views v r f all full are other fills;
}
