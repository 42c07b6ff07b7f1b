use Rattle.std.proofs.Common.{◌≡◌, ◌+◌, ◌-◌, ◌*◌, ◌<◌, ◌≤◌, ℕ, suc, min, List, [], ◌∷◌, length, drop, get_or, arith, drop-cons}
use Rattle.std.proofs.lemmas.Bool.Decides.{nat_tests}
use Rattle.fp_syntax.specs.Words.{read_on}
use Rattle.fp_syntax.proofs.classify.number_of.Goals as goal

grows : (ds : List ℕ) (n : ℕ) → n ≤ read_on n ds
grows [] n = omega arith
grows (d ∷ ds) n = omega (arith, grows ds (10 * n + (d - 48)))

-- one digit makes the number too large
past : (ds : List ℕ) (i n m : ℕ) → i < length ds → read_on n (drop i ds) ≡ read_on 0 ds → m ≤ 10 * n + (get_or ds i 0 - 48) → m ≤ read_on 0 ds
past ds i n m l e h =
    let f : read_on (10 * n + (get_or ds i 0 - 48)) (drop (suc i) ds) ≡ read_on 0 ds = rw (drop-cons ds i 0 l) at e in
    omega (arith, f, grows (drop (suc i) ds) (10 * n + (get_or ds i 0 - 48)))

least : (n m : ℕ) → m ≤ n → m ≡ min n m
least n m l = grind (arith, nat_tests)

pub returns-then-value-gt4294967295 : goal.returns-then-value-gt4294967295
returns-then-value-gt4294967295 c =
    least (read_on 0 c.args.digits.now) 4294967295 (past c.args.digits.now c.loop-byte.byte-index c.loop-byte.value 4294967295 c.loop-byte-test.true c.loop-byte.invariant.0 (omega (arith, c.if-value-gt4294967295.true, c.from.ensures, c.saturating_sub.ensures)))
