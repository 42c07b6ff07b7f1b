use Rattle.std.proofs.Common.{◌≡◌, ◌<◌, ◌≤◌, ℕ, length, get_or, None}
use Rattle.fp_shown.specs.Shown.{number_on}
use Rattle.fp_shown.specs.Known.{known_at, marked}
use Rattle.fp_shown.proofs.search.mark.Given as goal

abbrev pub invariant-loop-row : goal.invariant-loop-row
invariant-loop-row l = record {
  done : (r : ℕ) → r < l.row → get_or l.decided.items r None ≡ marked (known_at (number_on l.s.grid) l.known l.column r) l.position (get_or l.initial.decided.items r None);
  len : length l.decided.items ≡ length l.initial.decided.items;
  rest : (r : ℕ) → l.row ≤ r → get_or l.decided.items r None ≡ get_or l.initial.decided.items r None;
}
