-- The type of functions of several arguments, made from the last argument on.
use Rattle.std.proofs.Common.{◌≡◌, ◌∙◌, ℕ, zero, suc, ◌+◌, ◌-◌, ◌<◌, List, [], ◌∷◌, length, get_or, take, ap, arith}
use Rattle.fp_term.specs.Types.{Typ}
use Rattle.fp_term.specs.Typing.{function_type, function_type_over}

taken : (from : List Typ) (k : ℕ) (x to : Typ) → k < length from → x ≡ get_or from k x → function_type_over (take k from) (function_type x to) ≡ function_type_over (take (suc k) from) to
taken [] k x to l e = absurd (omega arith)
taken (y ∷ from) zero x to l e = ap (λ z. function_type z to) e
taken (y ∷ from) (suc k) x to l e = ap (function_type y) (taken from k x to (omega arith) e)

-- one more argument before those that are there
pub one_before : (from : List Typ) (at : ℕ) (x made whole : Typ) → at < length from → x ≡ get_or from (length from - 1 - at) x →
    function_type_over (take (length from - at) from) made ≡ whole → function_type_over (take (length from - (at + 1)) from) (function_type x made) ≡ whole
one_before from at x made whole l e h =
    let k : length from - (at + 1) ≡ length from - 1 - at = omega arith in
    let n : suc (length from - 1 - at) ≡ length from - at = omega arith in
    rw k (taken from (length from - 1 - at) x made (omega arith) e ∙ ap (λ m. function_type_over (take m from) made) n ∙ h)
