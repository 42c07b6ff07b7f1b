-- Counts of the calls of `open` that succeeded, where they are told.
use Rattle.std.specs.Prelude.{◌≡◌, ◌+◌, ℕ, Option, Result, MatchResult}
use Rattle.std.specs.Option.{option_map}

abbrev pub one_more : Option ℕ → Option ℕ
one_more count = option_map (λ n. n + 1) count

-- A call that succeeds is counted, and one that fails isn't.
abbrev pub CountsOpen : {T E : Type 0} → Option ℕ → Option ℕ → Result T E → Type 0
CountsOpen old new result = MatchResult result (λ _. new ≡ one_more old) (λ _. new ≡ old)
