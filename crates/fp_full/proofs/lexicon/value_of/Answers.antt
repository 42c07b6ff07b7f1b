use Rattle.std.proofs.Common.{◌≡◌, ◌+◌, ◌-◌, ◌*◌, ◌<◌, ◌≤◌, ◌^◌, ◌&&◌, ℕ, suc, List, [], ◌∷◌, length, drop, get_or, Bool, true, false, cond, nat_lt, Option, Some, None, refl, arith, drop-cons}
use Rattle.std.specs.Str.{all_ascii_digits}
use Rattle.std.proofs.lemmas.Bool.Decides.{nat_tests}
use Rattle.fp_full.specs.Machine.{read_on}
use Rattle.fp_full.proofs.lexicon.value_of.Goals as goal

grows : (ds : List ℕ) (n : ℕ) → n ≤ read_on n ds
grows [] n = omega arith
grows (d ∷ ds) n = omega (arith, grows ds (10 * n + (d - 48)))

none_past : (d : Bool) (n m : ℕ) → m ≤ n → ◌≡◌ {A = Option ℕ} None (cond (d && nat_lt n m) (Some n) None)
none_past true n m l = let e : nat_lt n m ≡ false = grind (arith, nat_tests) in rw e refl
none_past false n m l = refl

-- one digit makes the number too large
past : (ds : List ℕ) (i n m : ℕ) → i < length ds → read_on n (drop i ds) ≡ read_on 0 ds → m ≤ 10 * n + (get_or ds i 0 - 48) → m ≤ read_on 0 ds
past ds i n m l e h =
    let f : read_on (10 * n + (get_or ds i 0 - 48)) (drop (suc i) ds) ≡ read_on 0 ds = rw (drop-cons ds i 0 l) at e in
    omega (arith, f, grows (drop (suc i) ds) (10 * n + (get_or ds i 0 - 48)))

pub returns-then-value-from : goal.returns-then-value-from
returns-then-value-from c =
    none_past (all_ascii_digits c.args.digits.now) (read_on 0 c.args.digits.now) (2 ^ 32)
    (past c.args.digits.now c.loop-byte.byte-index c.loop-byte.value (2 ^ 32) c.loop-byte-test.true c.loop-byte.invariant.value (omega arith))
