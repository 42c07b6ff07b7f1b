-- A line goes behind the text, and the rest behind it.
use Rattle.std.proofs.Common.{◌≡◌, ◌<◌, ◌+◌, ◌-◌, ◌++◌, ◌∙◌, ℕ, zero, suc, List, ap, arith, sym, subst, append_assoc}
use Rattle.fp_gen.specs.Generated.{next_word, line_of, lines_after}

without_one : (k : ℕ) → k ≡ suc k - 1
without_one k = omega arith

pub goes_on : (i left n word next : ℕ) (text new all : List ℕ) → 0 < left → next ≡ next_word word → i + left ≡ n → text ++ lines_after i word left ≡ all → new ≡ text ++ line_of next (i + 1) → (i + 1 + (left - 1) ≡ n) × (new ++ lines_after (i + 1) next (left - 1) ≡ all)
goes_on i zero n word next text new all p s q r e = absurd (omega arith)
goes_on i (suc k) n word next text new all p s q r e =
    let before : text ++ (line_of next (i + 1) ++ lines_after (i + 1) next k) ≡ all =
    subst (λ w. text ++ (line_of w (i + 1) ++ lines_after (i + 1) w k) ≡ all) (sym s) r in
    let behind : new ++ lines_after (i + 1) next k ≡ all =
    ap (λ (t : List ℕ). t ++ lines_after (i + 1) next k) e ∙ append_assoc text (line_of next (i + 1)) (lines_after (i + 1) next k) ∙ before in
    (omega (arith, q), subst (λ m. new ++ lines_after (i + 1) next m ≡ all) (without_one k) behind)
